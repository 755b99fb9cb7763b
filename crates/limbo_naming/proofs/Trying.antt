-- What is found of a declaration, by what is found of the name that it stands for.
use Rattle.std.proofs.Common.{◌≡◌, ℕ, List, Some}
use Rattle.limbo_entries.specs.Entries.{Entry, IsEntry}
use Rattle.limbo_naming.specs.declared.state.State.{State}
use Rattle.limbo_naming.specs.declared.state.Found.{Found}
use Rattle.limbo_naming.specs.declared.state.Found.TheVariants as found
use Rattle.limbo_naming.specs.Qualified.{Qualified, row_stands_for}
use Rattle.limbo_naming.specs.Naming.{onward}
use Rattle.limbo_naming.specs.Search.{IsSight, Says, Tries}
use Rattle.limbo_naming.proofs.Unique.{goes_on, lacks_none}
use Rattle.limbo_naming.proofs.Circles.{leads_through}

module _ (es : List Entry) (m : ℕ) (states : List State) (sight : IsSight es m states) (j : ℕ) (e : Entry) (q : Qualified) where
  pub tries : IsEntry es j e → row_stands_for e.row ≡ Some q → (f : Found) → Says es m states e.within q f → Tries es m states j f
  tries i w (found.Named r) s = onward j r e q i w s
  tries i w found.Unknown s = λ r d. lacks_none es m sight.once e.within q r s (goes_on es m sight.once j r e q i w d)
  tries i w found.Nothing s = λ r d. s.1 r (goes_on es m sight.once j r e q i w d)
  tries i w (found.Needs k) s = (s.0, s.1, leads_through es m j k e q i w s.2)
