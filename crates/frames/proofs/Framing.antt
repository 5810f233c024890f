-- Laws of frames: seven bytes are enough to tell one, and a line's fault comes first.
use Rattle.std.proofs.Common.{◌≡◌, ℕ, ◌+◌, ◌-◌, ◌≤◌, true, false, cond, List, [], ◌∷◌, length, get_or, take, drop, Ok, Err, Result, sym, refl, ap, ◌∙◌, subst, arith}
use Rattle.std.proofs.lemmas.List.{length-take, take_all, take_rest}
use Rattle.frames.specs.declared.faults.LineFault.{LineFault}
use Rattle.frames.specs.declared.faults.LineFault.TheVariants.{Digits, Unclosed}
use Rattle.frames.specs.declared.faults.FrameFault.{FrameFault}
use Rattle.frames.specs.declared.faults.FrameFault.TheVariants.{Line}
use Rattle.frames.specs.Frames.{Frame, first_frame, frame_of_bytes, frame_of_first, frame_of_kind, frame_of_line, sized}
use Rattle.frames.specs.Frames.Node.{apply}
use Rattle.frames.specs.Frames.Frame.{node}
use Rattle.frames.specs.Lines.{cut, first_line, line_of, proper, spelt}
use Rattle.frames.proofs.Cuts.{Beyond, beyond as beyond-line}
use Rattle.frames.proofs.Spelling.{length_spelt, spelt_drop}

-- no frame has more than six bytes
pub head_enough : (n : ℕ) (xs : List ℕ) → frame_of_bytes n (take 7 xs) ≡ frame_of_bytes n xs
head_enough n [] = refl
head_enough n (a ∷ []) = refl
head_enough n (a ∷ b ∷ []) = refl
head_enough n (a ∷ b ∷ c ∷ []) = refl
head_enough n (a ∷ b ∷ c ∷ d ∷ []) = refl
head_enough n (a ∷ b ∷ c ∷ d ∷ e ∷ []) = refl
head_enough n (a ∷ b ∷ c ∷ d ∷ e ∷ f ∷ []) = refl
head_enough n (a ∷ b ∷ c ∷ d ∷ e ∷ f ∷ g ∷ more) = refl

-- what a line says once its digits are at hand
abbrev carried : ℕ → Result (List ℕ) LineFault → Result (Frame × ℕ) FrameFault
carried n (Ok line) = sized (length line + 1) (frame_of_bytes n (spelt line))
carried n (Err fault) = Err (Line fault)

after_line : (n : ℕ) (lines : List (List ℕ)) → frame_of_first n lines ≡ carried n (line_of n lines)
after_line n [] = refl
after_line n (line ∷ lines) =
    elim (proper line) as (λ b. sized (length line + 1) (cond b (frame_of_bytes n (spelt line)) (Err (Line (Digits n)))) ≡ carried n (cond b (Ok line) (Err (Digits n)))) [ true ↦ refl | false ↦ refl ]

pub fault_of_line : (n : ℕ) (text : List ℕ) (fault : LineFault) → Err fault ≡ first_line n text → Err (Line fault) ≡ first_frame n text
fault_of_line n text fault e = sym (after_line n (cut text).lines ∙ ap (carried n) (sym e))

pub fault_of_frame : (n : ℕ) (text line : List ℕ) (fault : FrameFault) → Ok line ≡ first_line n text → Err fault ≡ frame_of_bytes n (spelt line) → Err fault ≡ first_frame n text
fault_of_frame n text line fault e f = sym (after_line n (cut text).lines ∙ ap (carried n) (sym e) ∙ ap (sized (length line + 1)) (sym f))

pub frame_with_size : (n : ℕ) (text line : List ℕ) (frame : Frame) → Ok line ≡ first_line n text → Ok frame ≡ frame_of_bytes n (spelt line) → Ok (frame, length line + 1) ≡ first_frame n text
frame_with_size n text line frame e f = sym (after_line n (cut text).lines ∙ ap (carried n) (sym e) ∙ ap (sized (length line + 1)) (sym f))

applied : (n : ℕ) (bs : List ℕ) → get_or bs 0 0 ≡ 37 → 3 ≤ length bs → length bs ≤ 6 → Ok (node (apply (get_or bs 1 0) (drop 2 bs))) ≡ frame_of_bytes n bs
applied n [] e low high = absurd (omega arith)
applied n (k ∷ []) e low high = absurd (omega arith)
applied n (k ∷ c ∷ []) e low high = absurd (omega arith)
applied n (k ∷ c ∷ i ∷ []) e low high = subst (λ j. Ok (node (apply c (i ∷ []))) ≡ frame_of_kind n j (c ∷ i ∷ [])) (sym e) refl
applied n (k ∷ c ∷ h ∷ i ∷ []) e low high = subst (λ j. Ok (node (apply c (h ∷ i ∷ []))) ≡ frame_of_kind n j (c ∷ h ∷ i ∷ [])) (sym e) refl
applied n (k ∷ c ∷ g ∷ h ∷ i ∷ []) e low high = subst (λ j. Ok (node (apply c (g ∷ h ∷ i ∷ []))) ≡ frame_of_kind n j (c ∷ g ∷ h ∷ i ∷ [])) (sym e) refl
applied n (k ∷ c ∷ f ∷ g ∷ h ∷ i ∷ []) e low high = subst (λ j. Ok (node (apply c (f ∷ g ∷ h ∷ i ∷ []))) ≡ frame_of_kind n j (c ∷ f ∷ g ∷ h ∷ i ∷ [])) (sym e) refl
applied n (k ∷ c ∷ f ∷ g ∷ h ∷ i ∷ j ∷ more) e low high = absurd (omega arith)

-- the operands of a connective are spelt by the digits from the fifth on
pub apply_by_digits : (n : ℕ) (bs ds : List ℕ) → bs ≡ take 7 (spelt ds) → get_or bs 0 0 ≡ 37 → 3 ≤ length bs → length bs ≤ 6 → Ok (node (apply (get_or bs 1 0) (spelt (take (length ds - 4) (drop 4 ds))))) ≡ frame_of_bytes n bs
apply_by_digits n bs ds e k low high =
    let l = ap length e ∙ length-take 7 (spelt ds) in
    let m = length_spelt ds in
    let short : length (spelt ds) ≤ 7 = omega arith in
    let long : 4 ≤ length ds = omega arith in
    let whole : spelt ds ≡ bs = sym (e ∙ take_all 7 (spelt ds) short) in
    let operands : spelt (take (length ds - 4) (drop 4 ds)) ≡ drop 2 bs = ap spelt (take_rest ds 4) ∙ spelt_drop ds long ∙ ap (drop 2) whole in
    ap (λ (is : List ℕ). Ok (node (apply (get_or bs 1 0) is))) operands ∙ applied n bs k low high

-- The first line of a text that is a frame: the line, the other lines, and what is left of the text after it.
pub record Framed (n : ℕ) (text : List ℕ) (frame : Frame) (size : ℕ) : Type 0 where
  pub line : List ℕ
  pub lines : List (List ℕ)
  pub is : (cut text).lines ≡ line ∷ lines
  pub says : frame_of_line n line ≡ Ok frame
  pub long : size ≡ length line + 1
  pub beyond : Beyond text line lines

sized_ok : (k size : ℕ) (r : Result Frame FrameFault) (frame : Frame) → Ok (frame, size) ≡ sized k r → (r ≡ Ok frame) × (size ≡ k)
sized_ok k size (Ok f) frame e = let p : ◌≡◌ {A = Frame × ℕ} (frame, size) (f, k) = cc in (ap Ok (sym (ap (λ (x : Frame × ℕ). x.0) p)), ap (λ (x : Frame × ℕ). x.1) p)
sized_ok k size (Err f) frame e = let z : ◌≡◌ {A = ℕ} 0 1 = cc in absurd (omega arith)

framed_lines : (n : ℕ) (text : List ℕ) (lines : List (List ℕ)) → (cut text).lines ≡ lines → (frame : Frame) (size : ℕ) → Ok (frame, size) ≡ frame_of_first n lines → Framed n text frame size
framed_lines n text [] is frame size e = let z : ◌≡◌ {A = ℕ} 0 1 = cc in absurd (omega arith)
framed_lines n text (line ∷ lines) is frame size e =
    let o = sized_ok (length line + 1) size (frame_of_line n line) frame e in
    record { line = line; lines = lines; is = is; says = o.0; long = o.1; beyond = beyond-line text line lines is }

pub framed_first : (n : ℕ) (text : List ℕ) (frame : Frame) (size : ℕ) → Ok (frame, size) ≡ first_frame n text → Framed n text frame size
framed_first n text frame size e = framed_lines n text (cut text).lines refl frame size e

-- a first line at fault, in a text that is not empty: either no 0A closes it, or it is a line whose frame is at fault
pub data Faulty (n : ℕ) (text : List ℕ) (fault : FrameFault) : Type 0 where
  open_line : (cut text).lines ≡ [] → fault ≡ Line (Unclosed n) → Faulty n text fault
  bad_line : (line : List ℕ) (lines : List (List ℕ)) → (cut text).lines ≡ line ∷ lines → frame_of_line n line ≡ Err fault → Faulty n text fault

sized_err : (k : ℕ) (r : Result Frame FrameFault) (fault : FrameFault) → Err fault ≡ sized k r → r ≡ Err fault
sized_err k (Ok f) fault e = let z : ◌≡◌ {A = ℕ} 0 1 = cc in absurd (omega arith)
sized_err k (Err f) fault e = cc

faulty_lines : (n : ℕ) (text : List ℕ) (lines : List (List ℕ)) → (cut text).lines ≡ lines → (fault : FrameFault) → Err fault ≡ frame_of_first n lines → Faulty n text fault
faulty_lines n text [] is fault e = open_line is (cc)
faulty_lines n text (line ∷ lines) is fault e = bad_line line lines is (sized_err (length line + 1) (frame_of_line n line) fault e)

pub faulty_first : (n : ℕ) (text : List ℕ) (fault : FrameFault) → Err fault ≡ first_frame n text → Faulty n text fault
faulty_first n text fault e = faulty_lines n text (cut text).lines refl fault e
