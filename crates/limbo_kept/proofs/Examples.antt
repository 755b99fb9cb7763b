-- A module of whose runs each configuration is well-typed: it meets all that is asked of modules, and stores nothing that leads back. And
-- a store that does.
use Rattle.std.specs.Prelude.{slice_get}
use Rattle.std.proofs.Common.{◌≡◌, ℕ, zero, suc, pos, List, [], ◌∷◌, Some, None, refl, sym, subst, inl, inr, codes, rules, arith}
use Rattle.std.proofs.Common.{◌≤◌}
use Rattle.limbo_types.specs.Types as ty
use Rattle.limbo_types.specs.Types.{Ty, Int, Nothing, ArrayOf, ListOf, RefAdt, Adt}
use Rattle.limbo_layout.specs.Adts.{Def, Has, field_types, Names, AreNamed}
use Rattle.limbo_layout.specs.Layout.{is_alone, of_adt, none_laid, more_laid, reference, in_order}
use Rattle.limbo_typed.specs.declared.operation.Operation.TheVariants as operation
use Rattle.limbo_typed.specs.declared.operation.Sequence.TheVariants as sequence
use Rattle.limbo_adts.specs.Reaches.{reaches_itself}
use Rattle.limbo_typed.specs.Fitting.{IsNumber}
use Rattle.limbo_typed.specs.Sound.{IsSound, SoundExpr, SoundStmts}
use Rattle.limbo_typed.specs.Typed.{Expr, Of, Node, Filled, Absent, Place, Stmt, Stmts, Var, Function, Module}
use Rattle.limbo_typed.specs.Typed as typed
use Rattle.limbo_meaning.specs.Program.{Routine, routine_of, program_of}
use Rattle.limbo_meaning.proofs.Examples.{num, chars, nil, apply, read, var, item, field, set, more, items, function, made_of, cons, plus}
use Rattle.limbo_meaning.proofs.Examples.{variable}
use Rattle.process_model.specs.Source.{Turn}
use Rattle.limbo_meaning.specs.Runs.{Meaning, MeaningRun}
use Rattle.limbo_kept.specs.Permitting.{Anything, NeverBack}
use Rattle.limbo_kept.specs.Processes.{IsTyped}
use Rattle.limbo_kept.specs.Storing.{StoresWell, StoresAllowed}
use Rattle.limbo_kept.specs.Modules.{BlockWritten, TextsAreWritten, AdtsAreLaid, WordsAre, TakesWords, outline_with, outline_of}
use Rattle.limbo_kept.proofs.Opening.{modules_keep_types}

-- ---- Note: adt { text: string; marks: list of int; };  s := "ab"; a := array[2] of {0 => 1, 1 => 2}; l := 1 :: nil;
-- r := ref Note(s, l); s += r.text; a[1] = hd r.marks + len s;

abbrev marks : Ty
marks = ListOf Int

abbrev ints : Ty
ints = ArrayOf Int

abbrev words : Ty
words = ListOf ty.Chars

abbrev note : Def
note = record {
  name = codes "Note";
  fields = record { name = codes "text"; ty = ty.Chars } ∷ record { name = codes "marks"; ty = marks } ∷ [];
  picks = [];
}

abbrev declare : ℕ → Expr → Stmt
declare x e = typed.Declare (x ∷ []) (Some e)

abbrev main : Function
main = function (RefAdt 0 ∷ words ∷ []) Nothing (RefAdt 0 ∷ words ∷ ty.Chars ∷ ints ∷ marks ∷ RefAdt 0 ∷ [])
    (declare 2 (chars (codes "ab"))
    ∷ declare 3 (Of ints (Filled Absent (items ((0, num 1) ∷ (1, num 2) ∷ [])) Absent))
    ∷ declare 4 (cons marks (num 1) (nil marks))
    ∷ declare 5 (apply (RefAdt 0) operation.Ref
    (apply (Adt 0) (operation.Adt 0 None) (read (var ty.Chars 2) ∷ read (var marks 4) ∷ []) ∷ []))
    ∷ more operation.Join (var ty.Chars 2) (read (field (Adt 0) (read (var (RefAdt 0) 5)) ty.Chars 0))
    ∷ set (item Int (read (var ints 3)) (num 1))
    (plus (apply Int operation.Head (read (field (Adt 0) (read (var (RefAdt 0) 5)) marks 1) ∷ []))
    (apply Int (operation.Length sequence.Chars) (read (var ty.Chars 2) ∷ [])))
    ∷ [])

abbrev pub notes : Module
notes = made_of (note ∷ []) [] (main ∷ [])

-- the texts in it are of characters
pub notes_written : TextsAreWritten notes
notes_written = record { initials = tt; routines = go }
  where
    go : (f : ℕ) (r : Routine) → slice_get (program_of notes).routines f ≡ Some r → BlockWritten r.body
    go zero r e = let same : routine_of main ≡ r = cc in subst (λ (r : Routine). BlockWritten r.body) same (search rules)
    go (suc f) r e = absurd cc

-- its adt has a layout
pub notes_laid : AdtsAreLaid notes.adts
notes_laid zero d e = (
  in_order (reference ∷ reference ∷ []),
  of_adt 0 note (reference ∷ reference ∷ []) refl
      (more_laid ty.Chars (marks ∷ []) reference (reference ∷ []) (is_alone ty.Chars reference refl)
      (more_laid marks [] reference [] (is_alone marks reference refl) none_laid)),
)
notes_laid (suc n) d e = absurd cc

-- ---- and it is sound

abbrev variables : List Var
variables = main.variables

one_in_range : (n : ℕ) → n ≤ 2 → IsNumber Int (pos n)
one_in_range n l = record { above = search rules; below = search rules }

number_sound : (n : ℕ) → n ≤ 2 → SoundExpr notes variables (num n)
number_sound n l = ((tt, tt), one_in_range n l)

-- reads of the variables s, a, l and r
s_sound : SoundExpr notes variables (read (var ty.Chars 2))
s_sound = ((tt, tt), (((tt, tt), (variable ty.Chars, refl, refl)), refl))

a_sound : SoundExpr notes variables (read (var ints 3))
a_sound = ((tt, tt), (((tt, tt), (variable ints, refl, refl)), refl))

l_sound : SoundExpr notes variables (read (var marks 4))
l_sound = ((tt, tt), (((tt, tt), (variable marks, refl, refl)), refl))

r_sound : SoundExpr notes variables (read (var (RefAdt 0) 5))
r_sound = ((search rules, tt), (((search rules, tt), (variable (RefAdt 0), refl, refl)), refl))

-- r.text and r.marks
text_sound : SoundExpr notes variables (read (field (Adt 0) (read (var (RefAdt 0) 5)) ty.Chars 0))
text_sound = ((tt, tt), (((tt, tt), (((search rules, tt), (r_sound, refl)), (note, refl, refl))), refl))

marks_sound : SoundExpr notes variables (read (field (Adt 0) (read (var (RefAdt 0) 5)) marks 1))
marks_sound = ((tt, tt), (((tt, tt), (((search rules, tt), (r_sound, refl)), (note, refl, refl))), refl))

made_sound : SoundExpr notes variables (apply (Adt 0) (operation.Adt 0 None) (read (var ty.Chars 2) ∷ read (var marks 4) ∷ []))
made_sound = (
  (search rules, tt),
  (
    (s_sound, (l_sound, tt)),
    record { def = note; there = refl; fields = (refl, (inl refl, (inl refl, tt))); result = refl },
  ),
)

notes_body : SoundStmts notes main [] main.body
notes_body = (
  (((tt, tt), refl), ((ty.Chars, (variable ty.Chars, refl, refl), inl refl), tt)),
  (
    (
      ((tt, tt), (Int, refl, tt, (number_sound 1 (omega arith), inl refl, (number_sound 2 (omega arith), inl refl, tt)), tt)),
      ((ints, (variable ints, refl, refl), inl refl), tt),
    ),
    (
      (
        ((tt, tt), ((number_sound 1 (omega arith), (((tt, tt), tt), tt)), (Int, inl refl, refl, refl))),
        ((marks, (variable marks, refl, refl), inl refl), tt),
      ),
      (
        (((search rules, tt), ((made_sound, tt), refl)), ((RefAdt 0, (variable (RefAdt 0), refl, refl), inl refl), tt)),
        (
          ((tt, tt), (((tt, tt), (variable ty.Chars, refl, refl)), text_sound, (refl, refl), refl)),
          (
            (
              (tt, tt),
              (
                ((tt, tt), ((((tt, tt), ((marks_sound, tt), refl)), (((tt, tt), ((s_sound, tt), (tt, refl))), tt)), (refl, refl))),
                (((tt, tt), (a_sound, (refl, one_in_range 1 (omega arith)), refl)), inl refl),
                inl refl,
              ),
            ),
            tt,
          ),
        ),
      ),
    ),
  ),
)

notes_named : AreNamed notes.adts 0
notes_named zero d t e h =
    let same : note ≡ d = cc in
    elim (subst (λ (d : Def). Has (field_types d) t) (sym same) h) [
      | inl f ↦ subst (λ (x : Ty). Names notes.adts 0 x) f tt
      | inr g ↦ elim g [ inl f ↦ subst (λ (x : Ty). Names notes.adts 0 x) f tt | inr k ↦ absurd k ]
    ]
notes_named (suc n) d t e h = absurd cc

pub notes_sound : IsSound notes
notes_sound = record {
  adts = notes_named;
  modules = refl;
  globals = tt;
  initials = tt;
  functions = (record { parameters = refl; named = search rules; answer = (tt, tt); owner = tt; body = notes_body }, tt);
  declared = tt;
  interfaces = tt;
  system = tt;
  exceptions = tt;
}

-- Its function takes what `init` takes.
pub notes_words : (r : Routine) → slice_get (program_of notes).routines 0 ≡ Some r → TakesWords r
notes_words r e =
    let same : routine_of main ≡ r = cc in
    subst TakesWords same (record { adt = 0; more = ty.Chars ∷ ints ∷ marks ∷ RefAdt 0 ∷ []; variables = refl })

-- So types are kept in each of its runs.
pub notes_keep_types : (ws : List (List ℕ)) → WordsAre ws → (turns : List Turn) (c : Meaning) → MeaningRun notes ws 0 turns c
    → IsTyped (outline_of notes) c
notes_keep_types ws are turns c run =
    modules_keep_types.runs Anything notes notes_sound notes_laid notes_written (modules_keep_types.anything notes) ws are 0 turns c run
    (notes_words run.first run.there)

-- ---- and nothing that it stores leads back, which is kept too

pub notes_never_back : StoresAllowed NeverBack notes
notes_never_back = (search rules, tt)

notes_keep_stores : (ws : List (List ℕ)) → WordsAre ws → (turns : List Turn) (c : Meaning) → MeaningRun notes ws 0 turns c
    → IsTyped (outline_with NeverBack notes) c
notes_keep_stores ws are turns c run =
    modules_keep_types.runs NeverBack notes notes_sound notes_laid notes_written notes_never_back ws are 0 turns c run
    (notes_words run.first run.there)

-- Where an adt has a `ref` of itself, a store there leads back: it is refused, and only where it is asked.
abbrev link : Place
link = field (Adt 0) (read (var (RefAdt 0) 0)) (RefAdt 0) 0

link_leads_back : (defs : List Def) (e : Expr) → StoresWell NeverBack defs (typed.Assign (typed.ToPlace link) e) → ⊥
link_leads_back defs e h = h.places link refl (RefAdt 0) refl (reaches_itself (RefAdt 0) (RefAdt 0) refl)

link_is_anything : (defs : List Def) (e : Expr) → StoresWell Anything defs (typed.Assign (typed.ToPlace link) e)
link_is_anything defs e = search rules
