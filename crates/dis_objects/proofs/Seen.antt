-- Functions of the code, as the definitions see them.
use Rattle.std.proofs.Common.{◌≡◌, ℕ, ◌<◌, List, length, map, get_or, Some, refl, ap, ◌∙◌}
use Rattle.std.specs.Prelude.{slice_get, option_map}
use Rattle.std.proofs.lemmas.Option.{slice_get-map, slice_get_read}
use Rattle.slot_code.specs.declared.code.SlotFn.{SlotFn}
use Rattle.slot_code.specs.View.{view_function}

-- The function that is seen at a place.
pub seen : (fs : List SlotFn) (k : ℕ) (f : SlotFn) → k < length fs → f ≡ get_or fs k f →
    slice_get (map view_function fs) k ≡ Some (view_function f)
seen fs k f lt is = slice_get-map view_function fs k ∙ ap (option_map view_function) (slice_get_read fs (length fs) k f refl lt is)
