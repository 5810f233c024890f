-- Two checks of one property over models of one meaning, by the law.
use Rattle.std.proofs.Common.{◌≡◌, ℕ, List, [], ◌∷◌, Some, None, Ok, Option, Result, option_map, refl, subst, inl, inr}
use Rattle.frames.specs.declared.faults.Refusal.{Refusal}
use Rattle.kripke.specs.Models.{Kripke, OneMeaning}
use Rattle.decision.specs.Deciding.{lasso_in}
use Rattle.language.specs.Properties.{Property}
use Rattle.ledger.specs.Ledgers.{ledger}
use Rattle.ledger.specs.Turns.{Finding, Turn, History}
use Rattle.ledger.specs.Turns.Finding.{holds, broken}
use Rattle.ledger.specs.Turns.Turn.{check}
use Rattle.ledger.specs.Law.{Checked as CheckedIn, Lawful}
use Rattle.ledger.specs.Runs.{View, ByLaw, Fresh}
use Rattle.ledger.specs.Runs.Led.{new}
use Rattle.docket.specs.Answers.{Agree, WentByLaw, as_verdict, findings, got}
use Rattle.docket.specs.declared.requests.Answer.{Answer}

-- two checks under number 0, one after the other, none of them refused: where either says HOLDS, so does the other
module _ (m n : Kripke) (one : OneMeaning m n) (h : History) (s t s' t' : ℕ) (u v : Finding) where
  abbrev earlier : History
  earlier = check m 0 s t (Ok u) ∷ h

  abbrev both : History
  both = check n 0 s' t' (Ok v) ∷ earlier

  module _ (law : Lawful both) where
    -- the property that was checked
    abbrev checked : (f : Property) × ((ledger h).under 0 ≡ Some f)
    checked = law.checks h m 0 s t u (check n 0 s' t' (Ok v) ∷ [], refl)

    first_said : CheckedIn both m checked.0 u
    first_said = record { earlier = h; number = 0; scratch = s; trace = t; made = (check n 0 s' t' (Ok v) ∷ [], refl); then_there = checked.1 }

    second_said : CheckedIn both n checked.0 v
    second_said = record { earlier = earlier; number = 0; scratch = s'; trace = t'; made = ([], refl); then_there = checked.1 }

    forth : u ≡ holds → v ≡ holds
    forth e = law.carries_over m n one checked.0 (λ p cx none. none checked.0 (inl (subst (λ x. CheckedIn both m checked.0 x) e first_said)) cx.falsifies) v (inr second_said)

    back : v ≡ holds → u ≡ holds
    back e = law.carries_over m n one checked.0 (λ p cx none. none checked.0 (inr (subst (λ x. CheckedIn both n checked.0 x) e second_said)) cx.falsifies) u (inl first_said)

-- the law over three turns of a new docket
three : {d₀ d₁ d₂ d₃ : View} (o : Option Turn) (a b : Turn) → Fresh d₀ → WentByLaw d₀ o d₁ → ByLaw d₁ a d₂ → ByLaw d₂ b d₃ → (t : Turn) × Lawful (b ∷ a ∷ t ∷ [])
three (Some t) a b fresh first second third = (t, third.lawful _ (second.leads _ (first.leads _ (new fresh))))
three None a b fresh first second third = absurd first

-- a check under number 0 that was answered went by law
abbrev CheckWent : View → Kripke → (s t : ℕ) (trace : List ℕ) → Result Answer Refusal → View → Type 0
CheckWent d m s t trace a e = WentByLaw d (option_map (λ r. check m 0 s t (findings r trace)) (got as_verdict a)) e

pub agreed :
    (d₀ d₁ d₂ d₃ : View) (m n : Kripke) → OneMeaning m n → Fresh d₀ → (o : Option Turn) → WentByLaw d₀ o d₁ →
    (s t s' t' : ℕ) (a b : Result Answer Refusal) (trace trace' : List ℕ) →
    CheckWent d₁ m s t trace a d₂ →
    CheckWent d₂ n s' t' trace' b d₃ →
    Agree a b
agreed d₀ d₁ d₂ d₃ m n one fresh o first s t s' t' a b trace trace' second third = (
  λ p stem loop q.
      let y = subst (λ x. CheckWent d₁ m s t trace x d₂) p second in
      let z = subst (λ x. CheckWent d₂ n s' t' trace' x d₃) q third in
      let law = three o _ _ fresh first y z in
      let e = forth m n one (law.0 ∷ []) s t s' t' holds (broken (lasso_in trace' stem loop)) law.1 refl in cc,
  λ p stem loop q.
      let y = subst (λ x. CheckWent d₁ m s t trace x d₂) q second in
      let z = subst (λ x. CheckWent d₂ n s' t' trace' x d₃) p third in
      let law = three o _ _ fresh first y z in
      let e = back m n one (law.0 ∷ []) s t s' t' (broken (lasso_in trace stem loop)) holds law.1 refl in cc,
)
