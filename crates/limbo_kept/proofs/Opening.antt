-- A run of a sound module begins well-typed, and stays so.
use Rattle.std.proofs.Common.{◌≡◌, ℕ, zero, suc, ◌+◌, Bool, true, false, List, [], ◌∷◌, length, take, Some, None, refl, sym}
use Rattle.std.proofs.Common.{ap, subst, ◌∙◌, arith, map}
use Rattle.std.proofs.lemmas.Bool.{eqb-true}
use Rattle.std.specs.Prelude.{slice_get, nat_eq, if◌then◌else◌}
use Rattle.process_model.specs.Process.{Doing, Ready}
use Rattle.process_model.specs.Law.{begins}
use Rattle.heap_model.specs.Heap.{at}
use Rattle.limbo_types.specs.Types as ty
use Rattle.limbo_types.specs.Types.{Ty}
use Rattle.limbo_layout.specs.Adts.{Def}
use Rattle.limbo_typed.specs.declared.module.Initial.{Initial}
use Rattle.limbo_typed.specs.Sound.{IsSound, IsNamed, SoundInitial, Each}
use Rattle.limbo_typed.specs.Typed as typed
use Rattle.limbo_typed.specs.Typed.{Var, Module}
use Rattle.limbo_meaning.specs.Values.{Value, Chars, Ref, fitted}
use Rattle.limbo_meaning.specs.Memory.{HeapValue, Cell, Instance}
use Rattle.limbo_meaning.specs.Operations.{constant_value}
use Rattle.limbo_meaning.specs.Program.{Routine, routine_of, program_of, initial_of, initials_from, globals_of}
use Rattle.limbo_meaning.specs.Process.{Process}
use Rattle.limbo_meaning.specs.Runs.{list_from, cells_from, first_world, first_process}
use Rattle.limbo_kept.specs.Values.{Standing, Cells, Adts, Instances, Store, Refers, is_alone, AllAreOf, none_of}
use Rattle.limbo_kept.specs.Values.{more_of, Fits}
use Rattle.limbo_kept.specs.Stores.{Contains, IsThere, HeapIsOf}
use Rattle.limbo_kept.specs.Permitting.{Stores}
use Rattle.limbo_kept.specs.Trees.{Signature, IsWritten}
use Rattle.limbo_kept.specs.Processes.{scope_of, ProcessIs, DoingIs, IsTyped}
use Rattle.limbo_kept.specs.Storing.{StoresAllowed}
use Rattle.limbo_kept.specs.Modules.{TextsAreWritten, AdtsAreLaid, signature_of, outline_with, WordsAre, TakesWords, ModulesKeepTypes}
use Rattle.limbo_kept.proofs.Fitted.{zero_fits, reference_fits}
use Rattle.limbo_kept.proofs.Evaluating.{constant_fits}
use Rattle.limbo_kept.proofs.Processes.{arguments, nothing_said, block_on, types_are_kept}
use Rattle.limbo_kept.proofs.Modules.{room, types_in, program_is}
use Rattle.limbo_kept.proofs.Storing.{anything_allowed}

-- ---- the words

abbrev words_store : List (List ℕ) → Store
words_store [] = []
words_store (w ∷ ws) = Cells ty.Chars ∷ words_store ws

-- The store says from a name on that there are cells, as many as there are words.
abbrev SaysCells : Store → ℕ → List (List ℕ) → Type 0
SaysCells store n [] = Unit {0}
SaysCells store n (w ∷ ws) = (slice_get store n ≡ Some (Cells ty.Chars)) × SaysCells store (suc n) ws

says_more : (s : Standing) (store : Store) (n : ℕ) (ws : List (List ℕ)) → SaysCells store n ws → SaysCells (s ∷ store) (suc n) ws
says_more s store n [] h = tt
says_more s store n (w ∷ ws) h = (h.0, says_more s store (suc n) ws h.1)

says_words : (ws : List (List ℕ)) → SaysCells (words_store ws) 0 ws
says_words [] = tt
says_words (w ∷ ws) = (refl, says_more (Cells ty.Chars) (words_store ws) 0 ws (says_words ws))

first_refers : (store : Store) (n : ℕ) (ws : List (List ℕ)) → SaysCells store n ws → Refers store (Cells ty.Chars) (list_from n ws)
first_refers store n [] h = tt
first_refers store n (w ∷ ws) h = h.0

words_long : (n : ℕ) (ws : List (List ℕ)) → length (words_store ws) ≡ length (cells_from n ws)
words_long n [] = refl
words_long n (w ∷ ws) = ap suc (words_long (suc n) ws)

module _ (defs : List Def) (globals : List Ty) (store : Store) where
  -- what stands under the name of a cell
  cells_are : (ws : List (List ℕ)) (n k : ℕ) (u : HeapValue) → WordsAre ws → SaysCells store n ws → at (cells_from n ws) k ≡ Some u
      → (slice_get store (n + k) ≡ Some (Cells ty.Chars)) × Contains defs globals store (Cells ty.Chars) u
  cells_are [] n k u w h e = absurd cc
  cells_are (x ∷ ws) n zero u w h e =
      let same : Cell (Chars x) (list_from (suc n) ws) ≡ u = cc in (
        subst (λ (i : ℕ). slice_get store i ≡ Some (Cells ty.Chars)) (let f : n ≡ n + 0 = omega arith in f) h.0,
        subst (Contains defs globals store (Cells ty.Chars)) same (is_alone ty.Chars (Chars x) w.0, first_refers store (suc n) ws h.1),
      )
  cells_are (x ∷ ws) n (suc k) u w h e =
      let r = cells_are ws (suc n) k u w.1 h.1 e in
      (subst (λ (i : ℕ). slice_get store i ≡ Some (Cells ty.Chars)) (let f : suc n + k ≡ n + suc k = omega arith in f) r.0, r.1)

-- ---- the module's variables

module _ (r : Stores) (m : Module) (laid : AdtsAreLaid m.adts) (store : Store) where
  initial_fits : (n : ℕ) (v : Var) (is : List Initial) → slice_get m.globals n ≡ Some v → IsNamed m v.ty → Each (SoundInitial m) is
      → Each (λ (i : Initial). IsWritten i.value) is → Fits m.adts store v.ty (initial_of n is)
  initial_fits n v [] e h s w = zero_fits m.adts store v.ty (room r m laid [] v.ty h)
  initial_fits n v (i ∷ is) e h s w = go (nat_eq i.global n) refl (initial_fits n v is e h s.1 w.1)
    where
      there : nat_eq i.global n ≡ true → s.0.0 ≡ v.ty
      there f =
          let same = eqb-true i.global n f in
          let g : slice_get m.globals n ≡ Some s.0.1.0 = subst (λ (k : ℕ). slice_get m.globals k ≡ Some s.0.1.0) same s.0.1.1 in
          let x : s.0.1.0 ≡ v = cc in
          sym s.0.1.2 ∙ ap (λ (y : Var). y.ty) x

      go : (b : Bool) → nat_eq i.global n ≡ b → Fits m.adts store v.ty (initial_of n is)
          → Fits m.adts store v.ty (if b then constant_value i.value else initial_of n is)
      go true f k =
          subst (λ (t : Ty). Fits m.adts store t (constant_value i.value)) (there f)
          (constant_fits (scope_of (outline_with r m) []) store s.0.0 i.value s.0.2 w.0)
      go false f k = k

  -- from a number on
  abbrev From : ℕ → List Var → Type 0
  From n vs = (j : ℕ) (v : Var) → slice_get vs j ≡ Some v → slice_get m.globals (n + j) ≡ Some v

  initials_are : (n : ℕ) (vs : List Var) → From n vs → Each (λ (v : Var). IsNamed m v.ty) vs → Each (SoundInitial m) m.initials
      → Each (λ (i : Initial). IsWritten i.value) m.initials
      → AllAreOf m.adts store (types_in vs) (initials_from m.adts n vs m.initials)
  initials_are n [] h k s w = none_of
  initials_are n (v ∷ vs) h k s w =
      let there : slice_get m.globals n ≡ Some v =
      subst (λ (i : ℕ). slice_get m.globals i ≡ Some v) (let f : n + 0 ≡ n = omega arith in f) (h 0 v refl) in
      more_of v.ty (types_in vs) (fitted m.adts v.ty (initial_of n m.initials)) (initials_from m.adts (suc n) vs m.initials)
      (initial_fits n v m.initials there k.0 s w)
      (initials_are (suc n) vs (λ j u e. subst (λ (i : ℕ). slice_get m.globals i ≡ Some u)
      (let f : n + suc j ≡ suc n + j = omega arith in f) (h (suc j) u e)) k.1 s w)

-- ---- the opening

signature_there : (fs : List typed.Function) (k : ℕ) (r : Routine) → slice_get (map routine_of fs) k ≡ Some r
    → (g : Signature) × (slice_get (map signature_of fs) k ≡ Some g)
signature_there [] k r e = absurd cc
signature_there (f ∷ fs) zero r e = (signature_of f, refl)
signature_there (f ∷ fs) (suc k) r e = signature_there fs k r e

module _ (r : Stores) (m : Module) (sound : IsSound m) (laid : AdtsAreLaid m.adts) (written : TextsAreWritten m)
    (allowed : StoresAllowed r m) (words : List (List ℕ)) (texts : WordsAre words) where
  abbrev store : Store
  store = Instances ∷ words_store words

  abbrev globals : List Ty
  globals = types_in m.globals

  says : SaysCells store 1 words
  says = says_more Instances (words_store words) 0 words (says_words words)

  opening_heap : HeapIsOf m.adts globals store (first_world m words).heap
  opening_heap = record { long = ap suc (words_long 1 words); each = λ n u e. go n u e }
    where
      go : (n : ℕ) (u : HeapValue) → at (first_world m words).heap n ≡ Some u → IsThere m.adts globals store n u
      go zero u e =
          let same : Instance (globals_of m) ≡ u = cc in record {
            stands = Instances;
            said = refl;
            contains =
                subst (Contains m.adts globals store Instances) same
                (initials_are r m laid store 0 m.globals
                (λ j v e. subst (λ (i : ℕ). slice_get m.globals i ≡ Some v) (let f : j ≡ 0 + j = omega arith in f) e)
                sound.globals sound.initials written.initials);
          }
      go (suc k) u e =
          let c = cells_are m.adts globals store words 1 k u texts says e in record {
            stands = Cells ty.Chars;
            said = subst (λ (i : ℕ). slice_get store i ≡ Some (Cells ty.Chars)) (let f : 1 + k ≡ suc k = omega arith in f) c.0;
            contains = c.1;
          }

  opening_process : (init : ℕ) (x : Routine) → slice_get (program_of m).routines init ≡ Some x → TakesWords x
      → ProcessIs (outline_with r m) store None (first_process m words x)
  opening_process init x there takes =
      let g = signature_there m.functions init x there in
      let is = (program_is r m sound laid written allowed).routines init g.0 x g.1 there in
      let us = ty.RefAdt takes.adt ∷ ty.ListOf ty.Chars ∷ [] in record {
        frame = record {
          types = x.variables;
          gives = g.0.answer;
          declared = record { number = init; function = g.0; there = g.1; variables = is.variables; answer = refl };
          variables =
              arguments m.adts store x.variables us (Ref None ∷ Ref (list_from 1 words) ∷ []) is.rooms
              (ap (λ (ts : List Ty). take 2 ts) takes.variables) (
                reference_fits m.adts store (ty.RefAdt takes.adt) (Adts takes.adt) (Ref None) refl tt,
                (
                  reference_fits m.adts store (ty.ListOf ty.Chars) (Cells ty.Chars) (Ref (list_from 1 words)) refl
                      (first_refers store 1 words says),
                  tt,
                ),
              );
          instance = refl;
          answer = is.answer;
          todo = block_on (scope_of (outline_with r m) x.variables) [] store (nothing_said store) g.0.answer None x.body is.body;
        };
        below = tt;
      }

  opening_typed : (init : ℕ) (x : Routine) → slice_get (program_of m).routines init ≡ Some x → TakesWords x
      → IsTyped (outline_with r m) (begins (first_world m words) (first_process m words x))
  opening_typed init x there takes = record {
    store = store;
    heap = opening_heap;
    processes = go;
  }
    where
      go : (i : ℕ) (d : Doing Process Value) → slice_get (Ready (first_process m words x) ∷ []) i ≡ Some d
          → DoingIs (outline_with r m) store d
      go zero d e =
          let same : Ready (first_process m words x) ≡ d = cc in
          subst (DoingIs (outline_with r m) store) same (opening_process init x there takes)
      go (suc i) d e = absurd cc

pub modules_keep_types : ModulesKeepTypes
modules_keep_types = record {
  programs = program_is;
  runs = λ r m sound laid written allowed words texts init turns c run takes.
      (types_are_kept.runs _ (outline_with r m) (program_of m) (program_is r m sound laid written allowed) _ c turns
      (opening_typed r m sound laid written allowed words texts init run.first run.there takes) run.run).typed;
  anything = anything_allowed;
}
