-- The code of calls and prints waits for their answers.
use Rattle.std.proofs.Common.{◌≡◌, ℕ, suc, ◌+◌, Bool, List, [], ◌∷◌, length, Some, refl, sym, ap, ◌∙◌, subst, arith}
use Rattle.std.proofs.Common.{length-append}
use Rattle.std.specs.Prelude.{slice_get}
use Rattle.limbo_types.specs.Types.{Ty, Int}
use Rattle.limbo_values.specs.declared.number.Kind.{Kind}
use Rattle.limbo_values.specs.declared.number.Kind.TheVariants as kind
use Rattle.limbo_typed.specs.declared.print.Piece.{Piece}
use Rattle.system_model.specs.Values.{Value}
use Rattle.system_model.specs.Prints.{print}
use Rattle.system_model.specs.Limits.{frames_limit}
use Rattle.typed_meaning.specs.Values.{kind_of, fitted}
use Rattle.typed_meaning.specs.Formats.{text_of}
use Rattle.typed_meaning.specs.Trees.{Place, Term, Evaluated, Awaiting, Call, Print, Terms, NoTerms, Block}
use Rattle.typed_meaning.specs.Program.{Routine}
use Rattle.typed_meaning.specs.Evaluation.{Calls, Prints, after, next}
use Rattle.typed_meaning.specs.Process.{reads}
use Rattle.slot_code.specs.Code.{Spot, Temporary, In, Inst, Hand, Begin, Format, Function}
use Rattle.slot_code.specs.Code as code
use Rattle.slot_code.specs.Machine.{Frame, moved, put, waiting, taken}
use Rattle.slot_code.specs.Machine as machine
use Rattle.slot_code.specs.Step as code_step
use Rattle.typed_lower.specs.Terms.{parts_of, made_ready, answered, count}
use Rattle.typed_lower.specs.Stands as stands
use Rattle.typed_lower.specs.Stands.{AllFresh, HasAt, beside, sourced, coded, obeys, Stands, Going, Next, Arrives, Waits, Hears}
use Rattle.typed_lower.proofs.Contexts.{NotDone, Context, stepped, in_call, in_print}
use Rattle.typed_lower.proofs.Places.{has_front, has_back, has_at, put_same, put_below, After}
use Rattle.typed_lower.proofs.Operands.{Delivers, no_steps, hand_going}
use Rattle.typed_lower.proofs.Parts.{ValueGoes, Written}
use Rattle.typed_lower.proofs.Arguments.{prefixed, all_evaluated, Making, AllGo, made_goes}

module _ (routines : List Routine) (functions : List Function) (codes : List Inst) where
  abbrev V : Term → Type 0
  V t = ValueGoes routines functions codes t

  abbrev G : Frame → Block → Type 0
  G g todo = Going routines functions codes g todo

  -- The frame that waits, as it was but for its place.
  waiting_after : (written : ℕ → Bool) (d pc pc' : ℕ) (ps : List Piece) (vs : List Value) (k : Kind) (s : Spot) (g g' : Frame)
      → Making written d pc ps vs g g' → suc pc ≡ pc' → After written d pc' g (waiting g' g.made k s)
  waiting_after written d pc pc' ps vs k s g g' m e = record {
    place = ap suc m.others.place ∙ e;
    function = m.others.function;
    instance = m.others.instance;
    made = refl;
    low = m.others.low;
    kept = m.others.kept;
  }

  -- It waits for an answer, which comes to its place as one of its type.
  waits_for : (written : ℕ → Bool) (d pc pc' : ℕ) (ps : List Piece) (vs : List Value) (ty : Ty) (s : Spot)
      (within : Term → Block) (g g' : Frame)
      → Context routines within → Making written d pc ps vs g g' → suc pc ≡ pc'
      → Delivers routines functions codes s within written d pc' g
      → Waits routines functions codes (waiting g' g.made (kind_of ty) s) (within (Awaiting ty))
  waits_for written d pc pc' ps vs ty s within g g' cx m e arrives =
      let g2 = waiting g' g.made (kind_of ty) s in
      let a = waiting_after written d pc pc' ps vs (kind_of ty) s g g' m e in
      stands.waits g2 (within (Awaiting ty)) (λ w v. (arrives g2 a w (fitted ty v)).0)
      (λ w v. subst (λ (b : Block). Arrives routines functions codes (arrives g2 a w (fitted ty v)).0 w g2 s (fitted ty v) b)
      (sym (cx.fills v (Awaiting ty))) (arrives g2 a w (fitted ty v)).1)

  -- ---- a call

  calling : (r : Place → Value) (ty : Ty) (f : ℕ) (vs : List Value) → next r (Call ty f (prefixed vs NoTerms)) ≡ Calls f vs (Awaiting ty)
  calling r ty f vs = ap (λ g. after g (λ us. Calls f us (Awaiting ty)) (Call ty f)) (all_evaluated r vs)

  pub call_goes : (ty : Ty) (f : ℕ) (ts : Terms) → AllFresh ts → AllGo routines functions codes ts → V (Call ty f ts)
  call_goes ty f ts fresh go d s within g cx has arrives =
      let k = kind_of ty in
      let M = made_ready (Begin f) (parts_of ts) d in
      let i = code.Call k f (count ts) s in
      let W = Written routines functions codes (Call ty f ts) in
      made_goes routines functions codes (Call ty f) (in_call ty f) [] within cx W g (Begin f) (refl, λ w n g1 gs p. refl) ts fresh go
      (λ x e. e) d (has_front codes g.pc M (i ∷ []) has) (λ g' vs many m.
      let todo = within (Call ty f (prefixed vs NoTerms)) in
      let g2 = waiting g' g.made k s in
      let given : taken m.made.arguments 0 (count ts) ≡ vs = ap (λ c. taken m.made.arguments 0 c) (sym many) ∙ m.holds in
      let there : slice_get codes g'.pc ≡ Some i =
      (has_at codes _ _ (i ∷ []) (sym m.others.place) (has_back codes g.pc M (i ∷ []) has)).0 in
      stands.instruction g' todo i there (λ w.
      stands.calls w g' g2 todo todo (within (Awaiting ty)) i 0 f vs
      (λ n gs p. ap (λ ms. code_step.called frames_limit functions w (coded n g' gs p) k f (count ts) s ms) m.is
      ∙ ap (λ us. machine.calls frames_limit w (coded n g' gs p) g2 f (slice_get functions f) us) given)
      (no_steps routines functions codes w g' todo)
      (λ n below. cx.acts w g' n below (Call ty f (prefixed vs NoTerms))
      (subst NotDone (sym (calling (reads w (beside g' todo)) ty f vs)) tt)
      ∙ ap (λ x. stepped routines w (sourced n (beside g' todo) below) x within) (calling (reads w (beside g' todo)) ty f vs))
      refl refl refl
      (waits_for W d (g.pc + length M) _ [] vs ty s within g g' cx m (omega (arith, length-append M (i ∷ []))) arrives)))

  -- ---- a print

  printing : (r : Place → Value) (ps : List Piece) (vs : List Value)
      → next r (Print ps (prefixed vs NoTerms)) ≡ Prints ps vs (Awaiting Int)
  printing r ps vs = ap (λ g. after g (λ us. Prints ps us (Awaiting Int)) (Print ps)) (all_evaluated r vs)

  -- Its answer is handed on from a temporary.
  heard : (written : ℕ → Bool) (d pc pc' : ℕ) (ps : List Piece) (vs : List Value) (s : Spot) (within : Term → Block) (g g' : Frame)
      → Context routines within → Making written d pc ps vs g g' → slice_get codes (suc pc) ≡ Some (Hand s (In (Temporary kind.Int d)))
      → suc (suc pc) ≡ pc' → Delivers routines functions codes s within written d pc' g
      → Hears routines functions codes (waiting g' g.made kind.Int (Temporary kind.Int d)) (within (Awaiting Int))
  heard written d pc pc' ps vs s within g g' cx m there e arrives =
      let g2 = waiting g' g.made kind.Int (Temporary kind.Int d) in
      stands.hears g2 (within (Awaiting Int)) kind.Int d refl (λ v.
      let x = fitted Int v in
      let g3 = record g2 { temporaries = put g2.temporaries kind.Int d x } in
      let a : After written d pc' g (moved g3 (suc g3.pc)) = record {
        place = ap (λ q. suc (suc q)) m.others.place ∙ e;
        function = m.others.function;
        instance = m.others.instance;
        made = refl;
        low = λ k n l. put_below g2.temporaries kind.Int d x k n l ∙ m.others.low k n l;
        kept = m.others.kept;
      } in
      subst (λ (b : Block). Stands routines functions codes g3 b) (sym (cx.fills v (Awaiting Int)))
      (stands.going g3 (within (Evaluated x))
      (hand_going routines functions codes s (In (Temporary kind.Int d)) x within g3 cx (λ w. put_same g2.temporaries kind.Int d x)
      (ap (slice_get codes) (ap suc m.others.place) ∙ there) (λ w. arrives (moved g3 (suc g3.pc)) a w x))))

  pub print_goes : (ps : List Piece) (ts : Terms) → AllFresh ts → AllGo routines functions codes ts → V (Print ps ts)
  print_goes ps ts fresh go d s within g cx has arrives =
      let M = made_ready (Format ps) (parts_of ts) d in
      let A = answered (count ts) d s in
      let i = code.Print (count ts) (Temporary kind.Int d) in
      let W = Written routines functions codes (Print ps ts) in
      made_goes routines functions codes (Print ps) (in_print ps) ps within cx W g (Format ps) (refl, λ w n g1 gs p. refl) ts fresh go
      (λ x e. e) d (has_front codes g.pc M A has) (λ g' vs many m.
      let todo = within (Print ps (prefixed vs NoTerms)) in
      let g2 = waiting g' g.made kind.Int (Temporary kind.Int d) in
      let given : taken m.made.arguments 0 (count ts) ≡ vs = ap (λ c. taken m.made.arguments 0 c) (sym many) ∙ m.holds in
      let both : HasAt codes (g.pc + length M) A = has_back codes g.pc M A has in
      let there : slice_get codes g'.pc ≡ Some i = ap (slice_get codes) m.others.place ∙ both.0 in
      stands.instruction g' todo i there (λ w.
      stands.prints w g' g2 todo todo (within (Awaiting Int)) i 0 (text_of ps vs)
      (λ n gs p. ap (λ ms. code_step.printed frames_limit functions w (coded n g' gs p) (count ts) (Temporary kind.Int d) ms) m.is
      ∙ ap (λ f. machine.prints w (coded n g' gs p) g2 (print w.outside (text_of f (taken m.made.arguments 0 (count ts))))) m.format
      ∙ ap (λ us. machine.prints w (coded n g' gs p) g2 (print w.outside (text_of ps us))) given)
      (no_steps routines functions codes w g' todo)
      (λ n below. cx.acts w g' n below (Print ps (prefixed vs NoTerms))
      (subst NotDone (sym (printing (reads w (beside g' todo)) ps vs)) tt)
      ∙ ap (λ x. stepped routines w (sourced n (beside g' todo) below) x within) (printing (reads w (beside g' todo)) ps vs))
      refl refl refl
      (heard W d (g.pc + length M) _ ps vs s within g g' cx m both.1.0 (omega (arith, length-append M A)) arrives)))
