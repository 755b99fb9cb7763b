-- The text that pieces spell, as a function that computes.
use Rattle.std.specs.Prelude.{ℕ, zero, suc, ◌+◌, if◌then◌else◌, List, [], ◌∷◌, ◌++◌, None, Some, is_some}
use Rattle.limbo_types.specs.Types.{FnTy}
use Rattle.limbo_layout.specs.Adts.{Def}
use Rattle.link_sign.specs.TypeText.{Piece, Letter, Whole, adt_pieces, fn_pieces, adt_at, opened_as, repeated}

-- in so many steps at most
abbrev pub spelled : (steps : ℕ) → List Def → (modules : List (List ℕ)) → (opened : List ℕ) → List Piece → List ℕ
spelled zero defs modules opened ps = []
spelled (suc k) defs modules opened [] = []
spelled (suc k) defs modules opened (Letter c ∷ ps) = c ∷ spelled k defs modules opened ps
spelled (suc k) defs modules opened (Whole n ∷ ps) = elim (opened_as opened n) [
  | None ↦ spelled k defs modules (opened ++ (n ∷ [])) (adt_pieces modules (adt_at defs n) ++ ps)
  | Some i ↦ repeated i ++ spelled k defs modules opened ps
]

-- How much there is to write: an adt counts more than the pieces of one without fields.
abbrev pub size : List Piece → ℕ
size [] = 0
size (Letter c ∷ ps) = suc (size ps)
size (Whole n ∷ ps) = size ps + 4

-- the same of the adts from number n on that weren't opened yet
abbrev pub unopened : (modules : List (List ℕ)) → (opened : List ℕ) → ℕ → List Def → ℕ
unopened modules opened n [] = 0
unopened modules opened n (d ∷ ds) =
    (if is_some (opened_as opened n) then 0 else size (adt_pieces modules d)) + unopened modules opened (suc n) ds

abbrev pub steps_for : List Def → (modules : List (List ℕ)) → (opened : List ℕ) → List Piece → ℕ
steps_for defs modules opened ps = size ps + unopened modules opened 0 defs

unfoldable pub text_of : List Def → (modules : List (List ℕ)) → FnTy → List ℕ
text_of defs modules f = spelled (steps_for defs modules [] (fn_pieces modules f) + 1) defs modules [] (fn_pieces modules f)
