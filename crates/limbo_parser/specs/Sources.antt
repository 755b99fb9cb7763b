-- Reading whole sources, from left to right, with the first fault that is met.
use Rattle.std.specs.Prelude.{ℕ, suc, List, [], ◌∷◌, length, Bool, true, false, Option, Some, None, Result, Ok, Err, if◌then◌else◌}
use Rattle.limbo_lexer.specs.declared.token.Kind.{Kind}
use Rattle.limbo_lexer.specs.declared.token.Kind.TheVariants as kind
use Rattle.limbo_lexer.specs.declared.token.Mark.TheVariants as mark
use Rattle.limbo_lexer.specs.declared.token.Key.TheVariants as key
use Rattle.limbo_tree.specs.Sources.{Top, Source, Include, Declared, Defined}
use Rattle.limbo_reading.specs.declared.fault.Fault.{Fault}
use Rattle.limbo_reading.specs.declared.fault.Fault.TheVariants.{Syntax}
use Rattle.limbo_reading.specs.Reading.{◌>>=◌, Reader, choose, after_mark, after_key, expect_mark, expect_key, expect_name}
use Rattle.limbo_reading.specs.Lists.{until}
use Rattle.limbo_decl_parser.specs.Decls.{decl_at, fn_at}
use Rattle.limbo_stmt_parser.specs.Stmts.{block_at}

-- whether a name begins a function's definition, and no declaration
abbrev pub defines : List Kind → Bool
defines (kind.Name n ∷ kind.Mark mark.OpenParen ∷ ts) = true
defines (kind.Name n ∷ kind.Mark mark.Dot ∷ ts) = true
defines _ = false

-- ["." ID]
abbrev pub part_at : Reader (Option (List ℕ))
part_at ts = choose (after_mark mark.Dot ts) (Ok (None, ts)) λ us. do
  n ← expect_name us
  Ok (Some n.0, n.1)

-- fndef = ID ["." ID] "(" [params] ")" [":" type] [raises] block
unfoldable pub defined_at : ℕ → Reader Top
defined_at b ts = do
  n ← expect_name ts
  part ← part_at n.1
  f ← fn_at b part.1
  body ← block_at b f.1
  Ok (Defined n.0 part.0 f.0 body.0, body.1)

-- STR
abbrev pub expect_chars : Reader (List ℕ)
expect_chars (kind.Chars s ∷ ts) = Ok (s, ts)
expect_chars ts = Err (Syntax (length ts))

-- top = "include" STR ";" | decl | fndef
unfoldable pub top_at : ℕ → Reader Top
top_at b ts = choose (after_key key.Include ts) (if defines ts then defined_at b ts else (do
  d ← decl_at b ts
  Ok (Declared d.0, d.1))) λ us. do
    s ← expect_chars us
    vs ← expect_mark mark.Semicolon s.1
    Ok (Include s.0, vs)

-- whether the tokens end here
abbrev pub at_end : List Kind → Bool
at_end (kind.End ∷ ts) = true
at_end _ = false

abbrev pub is_last : List Kind → Bool
is_last (kind.End ∷ []) = true
is_last _ = false

-- {top}, and the end
unfoldable pub tops_at : ℕ → Reader (List Top)
tops_at b ts = until (top_at b) (λ us. Ok (at_end us)) (suc (length ts)) ts

abbrev pub rest_at : ℕ → Option (List ℕ) → List Kind → Result Source Fault
rest_at b n ts = do
  tops ← tops_at b ts
  if is_last tops.1 then Ok (record { implements = n; tops = tops.0 }) else Err (Syntax (length tops.1))

-- ["implement" ID ";"], by whether the text is included
unfoldable pub implements_at : Bool → Reader (Option (List ℕ))
implements_at true ts = Ok (None, ts)
implements_at false ts = do
  us ← expect_key key.Implement ts
  n ← expect_name us
  vs ← expect_mark mark.Semicolon n.1
  Ok (Some n.0, vs)

-- all of the tokens: a source whose trees nest up to a limit, or an included text
unfoldable pub tree_at : ℕ → Bool → List Kind → Result Source Fault
tree_at b included ts = do
  n ← implements_at included ts
  rest_at b n.0 n.1
