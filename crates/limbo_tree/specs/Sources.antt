-- Sources (Limbo Language Reference, modules): the trees of whole texts, their spelling, and what tree a text has.
use Rattle.std.specs.Prelude.{◌≡◌, ℕ, ◌≤◌, max, List, [], ◌∷◌, Bool, true, false, Option, None, Some}
use Rattle.limbo_lexer.specs.declared.token.Kind.{Kind}
use Rattle.limbo_lexer.specs.declared.token.Kind.TheVariants as kind
use Rattle.limbo_lexer.specs.declared.token.Mark.TheVariants as mark
use Rattle.limbo_lexer.specs.declared.token.Key.TheVariants as key
use Rattle.limbo_tree.specs.Tokens.{◌▸◌, ◌▹◌}
use Rattle.limbo_tree.specs.Types.{spell_part}
use Rattle.limbo_tree.specs.Decls.{Decl, FnType, spell_decl, spell_fn, decl_nesting, fn_nesting, IsDecl, is_fn}
use Rattle.limbo_tree.specs.Stmts.{Block, spell_block, block_nesting, IsBlock}

-- top = "include" STR ";" | decl | fndef, and fndef = ID ["." ID] "(" [params] ")" [":" type] [raises] block
pub data Top : Type 0 where
  Include : List ℕ → Top
  Declared : Decl → Top
  Defined : List ℕ → Option (List ℕ) → FnType → Block → Top

-- source = "implement" ID ";" {top}, and an included text incl = {top}
pub record Source : Type 0 where
  pub implements : Option (List ℕ)
  pub tops : List Top

abbrev pub spell_top : Top → List Kind → List Kind
spell_top (Include s) ts = key.Include ▹ kind.Chars s ∷ (mark.Semicolon ▸ ts)
spell_top (Declared d) ts = spell_decl d ts
spell_top (Defined n part f b) ts = kind.Name n ∷ spell_part part (spell_fn f (spell_block b ts))

abbrev pub spell_tops : List Top → List Kind → List Kind
spell_tops [] ts = ts
spell_tops (t ∷ tops) ts = spell_top t (spell_tops tops ts)

abbrev pub spell_implements : Option (List ℕ) → List Kind → List Kind
spell_implements None ts = ts
spell_implements (Some n) ts = key.Implement ▹ kind.Name n ∷ (mark.Semicolon ▸ ts)

-- the tokens of a source, and then the end
abbrev pub spell_source : Source → List Kind
spell_source s = spell_implements s.implements (spell_tops s.tops (kind.End ∷ []))

abbrev pub top_nesting : Top → ℕ
top_nesting (Include s) = 0
top_nesting (Declared d) = decl_nesting d
top_nesting (Defined n part f b) = max (fn_nesting f) (block_nesting b)

abbrev pub tops_nesting : List Top → ℕ
tops_nesting [] = 0
tops_nesting (t ∷ tops) = max (top_nesting t) (tops_nesting tops)

-- the greatest number of expressions, types and statements on one path from the root
abbrev pub source_nesting : Source → ℕ
source_nesting s = tops_nesting s.tops

abbrev pub IsTop : Top → Type 0
IsTop (Include s) = Unit {0}
IsTop (Declared d) = IsDecl d
IsTop (Defined n part f b) = (is_fn f ≡ true) × IsBlock b

abbrev pub AreTops : List Top → Type 0
AreTops [] = Unit {0}
AreTops (t ∷ tops) = IsTop t × AreTops tops

-- by which start: an included text implements nothing, and a source does
abbrev pub is_included : Source → Bool
is_included s = elim s.implements [ None ↦ true | Some n ↦ false ]

-- The tokens have this tree, by the start of an included text where `included`, else by that of a source.
pub record IsTree (included : Bool) (tokens : List Kind) (s : Source) : Type 0 where
  pub start : is_included s ≡ included
  pub formed : AreTops s.tops
  pub spelled : tokens ≡ spell_source s

-- A list of tokens has at most one tree.
abbrev pub OneTree : Type 0
OneTree = (included : Bool) (tokens : List Kind) (a b : Source) → IsTree included tokens a → IsTree included tokens b → a ≡ b
