-- A docket keeps only properties within the limits, since its rows can hold no others.
use Rattle.std.proofs.Common.{◌≡◌, get_or, Some, None, Option, subst}
use Rattle.language.specs.Properties.{Property, WellFormed}
use Rattle.properties.specs.declared.property.Property.{Property as Stored}
use Rattle.properties.specs.Meaning.{meaning}
use Rattle.properties.proofs.Formed.{formed}
use Rattle.docket.specs.Calls.{WithinLimits}
use Rattle.docket.specs.Views.{entry, view}
use Rattle.docket.specs.declared.docket.Docket.{Docket}

of_row : (row : Option Stored) (f : Property) → entry row ≡ Some f → WellFormed f
of_row (Some p) f e = let same : meaning p ≡ f = cc in subst WellFormed same (formed p)
of_row None f e = cc

pub within_limits : (d : Docket) → WithinLimits (view d)
within_limits d k f e = of_row (get_or d.rows k None) f e
