-- What a form's refusals and matches say of the rows that it reads.
use Rattle.std.proofs.Common.{◌≡◌, ◌&&◌, ◌∙◌, Bool, true, false, List, [], ◌∷◌, Some, None, refl, sym, ap}
use Rattle.clap.specs.Words.{App, Kinds, Row, Text, fault_of, matches_of, IsAmong}
use Rattle.clap.specs.declared.error.kind.ErrorKind.{ErrorKind}
use Rattle.inferno_words.specs.Forms.{if_faultless, rows_by}

pub first_true : (a b : Bool) → (a && b) ≡ true → a ≡ true
first_true true b e = refl
first_true false b e = e

pub taken : (form : App) (words : List Text) (rows : List Row) → fault_of form words ≡ [] → rows ≡ matches_of form words
    → Some rows ≡ rows_by form words
unfolding rows_by
taken form words rows none same = ap Some same ∙ ap (λ (f : Kinds). if_faultless f (matches_of form words)) (sym none)

pub refused : (form : App) (words : List Text) (k : ErrorKind) → IsAmong k (fault_of form words) → None ≡ rows_by form words
unfolding rows_by
refused form words k among = go (fault_of form words) among
  where
    go : (f : Kinds) → IsAmong k f → None ≡ if_faultless f (matches_of form words)
    go [] h = absurd h
    go (x ∷ xs) h = refl
