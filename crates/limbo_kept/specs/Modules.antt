-- What is kept of each sound module.
use Rattle.std.specs.Prelude.{ℕ, ◌≡◌, List, [], ◌∷◌, Option, None, Some, map, slice_get}
use Rattle.process_model.specs.Source.{Turn}
use Rattle.limbo_types.specs.Types as ty
use Rattle.limbo_types.specs.Types.{Ty}
use Rattle.limbo_layout.specs.Adts.{Def}
use Rattle.limbo_typed.specs.declared.print.Hole.TheVariants as hole
use Rattle.limbo_typed.specs.declared.print.Piece.{Piece}
use Rattle.limbo_typed.specs.declared.print.Piece.TheVariants as piece
use Rattle.limbo_typed.specs.declared.module.Initial.{Initial}
use Rattle.limbo_typed.specs.Typed as typed
use Rattle.limbo_typed.specs.Sound.{IsSound, Each}
use Rattle.limbo_meaning.specs.Trees.{Work, Literal, Sprint, Term, Node, Lazy, Update, Fill, Terms, NoTerms, MoreTerms, Items, NoItems}
use Rattle.limbo_meaning.specs.Trees.{MoreItems, Stm, Eval, If, While, Enter, Return, Loop, Looping, Block, Then}
use Rattle.limbo_meaning.specs.Program.{Routine, program_of}
use Rattle.limbo_meaning.specs.Runs.{Meaning, MeaningRun}
use Rattle.limbo_kept.specs.Values.{AreCharacters}
use Rattle.limbo_kept.specs.Operating.{HasRoom}
use Rattle.limbo_kept.specs.Permitting.{Stores, Anything}
use Rattle.limbo_kept.specs.Trees.{Signature, IsWritten}
use Rattle.limbo_kept.specs.Processes.{Outline, ProgramIs, IsTyped}
use Rattle.limbo_kept.specs.Storing.{StoresAllowed}

-- ---- texts that are written in a module are of characters, and no `%r` is in the format of a `sprint`

abbrev pub PiecesWritten : List Piece → Type 0
PiecesWritten [] = Unit {0}
PiecesWritten (piece.Chars cs ∷ ps) = AreCharacters cs × PiecesWritten ps
PiecesWritten (piece.Hole hole.Error ∷ ps) = ⊥
PiecesWritten (piece.Hole h ∷ ps) = PiecesWritten ps

abbrev pub WorkWritten : Work → Type 0
WorkWritten (Literal c) = IsWritten c
WorkWritten (Sprint ps) = PiecesWritten ps
WorkWritten o = Unit {0}

abbrev mutual
  pub Written : Term → Type 0
  Written (Node t o ts) = WorkWritten o × AllWritten ts
  Written (Lazy c l r) = Written l × Written r
  Written (Update o g t w ts us) = AllWritten ts × AllWritten us
  Written (Fill t l is rest) = Written l × ItemsWritten is × AllWritten rest
  Written t = Unit {0}

  pub AllWritten : Terms → Type 0
  AllWritten NoTerms = Unit {0}
  AllWritten (MoreTerms t ts) = Written t × AllWritten ts

  pub ItemsWritten : Items → Type 0
  ItemsWritten NoItems = Unit {0}
  ItemsWritten (MoreItems z e is) = Written e × ItemsWritten is

abbrev pub WrittenIf : Option Term → Type 0
WrittenIf None = Unit {0}
WrittenIf (Some t) = Written t

abbrev mutual
  pub StmWritten : Stm → Type 0
  StmWritten (Eval t) = Written t
  StmWritten (If t a b) = Written t × BlockWritten a × BlockWritten b
  StmWritten (While t l) = Written t × LoopWritten l
  StmWritten (Enter l) = LoopWritten l
  StmWritten (Return t) = Written t
  StmWritten s = Unit {0}

  pub LoopWritten : Loop → Type 0
  LoopWritten (Looping c n body) = WrittenIf c × WrittenIf n × BlockWritten body

  pub BlockWritten : Block → Type 0
  BlockWritten (Then s b) = StmWritten s × BlockWritten b
  BlockWritten b = Unit {0}

pub record TextsAreWritten (m : typed.Module) : Type 0 where
  pub initials : Each (λ (i : Initial). IsWritten i.value) m.initials
  pub routines : (f : ℕ) (r : Routine) → slice_get (program_of m).routines f ≡ Some r → BlockWritten r.body

-- Each adt of a module has a layout.
abbrev pub AdtsAreLaid : List Def → Type 0
AdtsAreLaid defs = (n : ℕ) (d : Def) → slice_get defs n ≡ Some d → HasRoom defs (ty.Adt n)

-- ---- what a module declares, and what it may store

abbrev pub signature_of : typed.Function → Signature
signature_of f = record { takes = f.of.args; answer = f.of.answer; variables = map (λ (v : typed.Var). v.ty) f.variables }

abbrev pub outline_with : Stores → typed.Module → Outline
outline_with stores m = record {
  adts = m.adts;
  globals = map (λ (v : typed.Var). v.ty) m.globals;
  signatures = map signature_of m.functions;
  stores = stores;
}

abbrev pub outline_of : typed.Module → Outline
outline_of m = outline_with Anything m

-- The program's words are texts of characters.
abbrev pub WordsAre : List (List ℕ) → Type 0
WordsAre [] = Unit {0}
WordsAre (w ∷ ws) = AreCharacters w × WordsAre ws

-- A function whose parameters are a `ref` of an adt and a list of strings, as those of `init` are.
pub record TakesWords (r : Routine) : Type 0 where
  pub adt : ℕ
  pub more : List Ty
  pub variables : r.variables ≡ ty.RefAdt adt ∷ ty.ListOf ty.Chars ∷ more

-- The program of a sound module that stores what may be stored is well-typed; a run of it begins well-typed, and each configuration that it
-- comes to is well-typed. Where anything may be stored, each module stores what may be stored.
pub record ModulesKeepTypes : Type 0 where
  pub programs : (r : Stores) (m : typed.Module) → IsSound m → AdtsAreLaid m.adts → TextsAreWritten m → StoresAllowed r m →
      ProgramIs (outline_with r m) (program_of m)
  pub runs : (r : Stores) (m : typed.Module) → IsSound m → AdtsAreLaid m.adts → TextsAreWritten m → StoresAllowed r m →
      (words : List (List ℕ)) → WordsAre words → (init : ℕ) (turns : List Turn) (c : Meaning)
      (run : MeaningRun m words init turns c) → TakesWords run.first → IsTyped (outline_with r m) c
  pub anything : (m : typed.Module) → StoresAllowed Anything m
