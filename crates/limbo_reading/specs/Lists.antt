-- Lists of things, read one after the other. The fuel is how many more may be read: as many as tokens are left always do.
use Rattle.std.specs.Prelude.{ℕ, zero, suc, List, [], ◌∷◌, length, Bool, true, false, Option, Some, None, Result, Ok, Err, if◌then◌else◌}
use Rattle.limbo_lexer.specs.declared.token.Kind.{Kind}
use Rattle.limbo_reading.specs.declared.fault.Fault.{Fault}
use Rattle.limbo_reading.specs.declared.fault.Fault.TheVariants.{Syntax}
use Rattle.limbo_lexer.specs.declared.token.Mark.TheVariants as mark
use Rattle.limbo_lexer.specs.declared.token.Key.TheVariants as key
use Rattle.limbo_reading.specs.Reading.{◌>>=◌, Reader, choose, after_mark, after_key, expect_name}

-- {separator item}
unfoldable pub others : {A : Type 0} → Reader A → (List Kind → Option (List Kind)) → ℕ → Reader (List A)
others r separator zero ts = choose (separator ts) (Ok ([], ts)) λ us. Err (Syntax (length ts))
others r separator (suc n) ts = choose (separator ts) (Ok ([], ts)) λ us. do
  x ← r us
  xs ← others r separator n x.1
  Ok (x.0 ∷ xs.0, xs.1)

-- item {separator item}
unfoldable pub items : {A : Type 0} → Reader A → (List Kind → Option (List Kind)) → Reader (List A)
items r separator ts = do
  x ← r ts
  xs ← others r separator (length x.1) x.1
  Ok (x.0 ∷ xs.0, xs.1)

-- {item}, up to where the test says that they end
unfoldable pub until : {A : Type 0} → Reader A → (List Kind → Result Bool Fault) → ℕ → Reader (List A)
until r ends zero ts = Err (Syntax (length ts))
until r ends (suc n) ts = do
  e ← ends ts
  if e then Ok ([], ts) else do
    x ← r ts
    xs ← until r ends n x.1
    Ok (x.0 ∷ xs.0, xs.1)

-- ids = ID {"," ID}
abbrev pub names_at : Reader (List (List ℕ))
names_at ts = items expect_name (after_mark mark.Comma) ts

-- ID {"or" ID}
abbrev pub choices_at : Reader (List (List ℕ))
choices_at ts = items expect_name (after_key key.Or) ts
