-- A record is full on its way: from then on the slot stands for its value.
use Rattle.std.proofs.Common.{◌≡◌, ℕ, suc, pos, ◌<◌, List, [], ◌∷◌, length, Some, None, refl, sym, ap, subst}
use Rattle.std.proofs.Common.{◌∙◌, arith, inl, inr}
use Rattle.process_model.specs.Follows.{Only}
use Rattle.heap_model.specs.Facts.{IsFree, Free, Inner}
use Rattle.limbo_types.specs.Types.{Ty}
use Rattle.limbo_layout.specs.Adts.{Has}
use Rattle.limbo_typed.specs.Typed as typed
use Rattle.limbo_meaning.specs.Process.{Shared}
use Rattle.limbo_meaning.specs.Values.{Value}
use Rattle.core_code.specs.Machine as code
use Rattle.core_code.specs.Slots as core
use Rattle.core_code.specs.Slots.{Holds}
use Rattle.core_typing.specs.Held as held
use Rattle.core_typing.specs.Held.{Held, Of}
use Rattle.dis_meaning.specs.Words.{Word, Refer, word_at}
use Rattle.dis_meaning.specs.Process.{Process}
use Rattle.dis_memory.specs.Blocks.{World}
use Rattle.value_words.specs.Forms.{OwnedBy}
use Rattle.value_words.specs.Facts.{Facts, Grows}
use Rattle.value_words.proofs.Later.{stands_later}
use Rattle.value_frames.specs.Frames.{Boxed, form_of, spare_place, number_place, reference_place}
use Rattle.value_frames.specs.Slots.{IsKept, OneSlotChanged}
use Rattle.value_frames.specs.Standing.{SlotStands, a_value, ValueStands, NamesOnly, WordsAre}
use Rattle.value_frames.proofs.Slots.{slots_change, put_long, was_among}
use Rattle.value_follows.specs.Stands.{types_of, place_of, Awaited, Ready, GoesOn}
use Rattle.value_follows.specs.Sides.{sides}
use Rattle.value_follows.specs.Rows.{Base}
use Rattle.value_follows.proofs.Several.{moved_to}
use Rattle.value_follows.proofs.Waiting.{stands_anew}
use Rattle.rows_forming.proofs.Builds.{Builds, only_one}
use Rattle.rows_forming.proofs.Closing.{idle_words, same_or_not}
use Rattle.rows_forming.proofs.Gathers.{refers_outside}
use Rattle.rows_forming.proofs.Putting.{owned}
use Rattle.rows_forming.proofs.Telling.{told_facts, told, told_grows, told_alike, told_keeps, told_changes}

module _ (m : typed.Module) (b : Base m) (number : ℕ) (f : typed.Function) (t : Ty) (into far box : ℕ) (inner : List Word) (value : Value)
    (known : held.Slots) (i : ℕ) (p : code.Process) (q : Process) (k : Facts) (w : Shared) (x : World)
    (s : Builds m number f t into far box inner value known k i x p q) (worlds : (sides m).worlds k w x) (undecided : k.fact box ≡ None)
    (form : form_of t ≡ Boxed) (few : into < length p.frame.slots) (names : NamesOnly [] value) where
  pub outer : (c : ℕ) → Has inner (Refer (Some c)) → Inner k c → ⊥
  outer = refers_outside m.adts k t inner value s.kind s.is

  abbrev pub full_facts : Facts
  full_facts = told_facts m i k w x worlds box inner s.there undecided s.made outer

  pub full_grows : Grows k full_facts
  full_grows = told_grows m i k w x worlds box inner s.there undecided s.made outer

  keeps : (c : ℕ) → (c ≡ box → ⊥) → Free k c → IsKept full_facts x.heap x.heap c
  keeps = told_keeps m i k w x worlds box inner s.there undecided s.made outer

  abbrev types : List Ty
  types = types_of m s.stands.is.function

  abbrev pub full_slots : core.Slots
  full_slots = core.put p.frame.slots into (Holds value)

  value_stands : SlotStands m.adts full_facts x.heap q.frame.serial q.frame.words (number_place m.adts types into) (reference_place m.adts types into)
      (Of t []) (Holds value) []
  value_stands =
      a_value q.frame.words (number_place m.adts types into) (reference_place m.adts types into) t [] value
      (subst (λ g. ValueStands m.adts full_facts q.frame.words (number_place m.adts types into) (reference_place m.adts types into) g t value)
      (sym form) (
        box,
        inner,
        ap (λ (h : typed.Function). word_at q.frame.words (pos (reference_place m.adts (types_of m h) into))) s.function_is ∙ s.word,
        record { carries = told m i k w x worlds box inner s.there undecided s.made outer; kind = s.kind },
        stands_later m.adts k full_facts inner full_grows 0 t value s.is,
      ))
      names

  after : OneSlotChanged m.adts k full_facts x.heap x.heap q.frame.serial (into ∷ []) types s.stands.is.known p.frame.variables p.frame.slots
      q.frame.words q.frame.words s.stands.is.words into (Of t []) (Holds value) []
  after =
      slots_change.slot m.adts k full_facts x.heap x.heap q.frame.serial (into ∷ []) types s.stands.is.known p.frame.variables p.frame.slots
      q.frame.words q.frame.words into (Of t []) (Holds value) [] s.stands.is.words full_grows few (record { each = λ u no. refl })
      s.stands.is.words.kind value_stands tt
      (λ r c ne h. (
        λ e. e,
        keeps c (λ same. s.apart r (subst (λ (d : ℕ). Has (s.stands.is.words.own r) d) same h)) (owned m b number f t into far box inner value known i
            p q k w x s worlds r c h),
      ))

  none_busy : (r : ℕ) → Has (held.without into (into ∷ [])) r → ⊥
  none_busy r h = let was = was_among into r (into ∷ []) h in was.1 (sym (only_one into r was.0))

  last : (idle : WordsAre m.adts full_facts x.heap q.frame.serial [] types (held.put s.stands.is.known into (Of t [])) p.frame.variables full_slots
      q.frame.words) × (idle.own ≡ after.after.own)
  last =
      idle_words m.adts full_facts x.heap q.frame.serial (held.without into (into ∷ [])) types (held.put s.stands.is.known into (Of t []))
      p.frame.variables full_slots q.frame.words none_busy after.after

  mine : (r c : ℕ) → Has (last.0.own r) c → full_facts.maker c ≡ Some i
  mine r c h =
      let g = subst (λ (o : ℕ → List ℕ). Has (o r) c) last.1 h in
      elim (same_or_not r into) [
        | inl same ↦ absurd (subst (λ (o : List ℕ). Has o c) (ap after.after.own same ∙ after.here) g)
        | inr other ↦ full_grows.makers c i (s.stands.is.mine r c (subst (λ (o : List ℕ). Has o c) (after.elsewhere r other) g))
      ]

  other_block : (c : ℕ) → (k.form c ≡ Some (OwnedBy q.frame.serial) → ⊥) → c ≡ box → ⊥
  other_block c other same = other (ap k.form same ∙ s.formed)

  pub full_ready : GoesOn m s.stands.is.function (suc p.frame.pc) (held.put s.stands.is.known into (Of t []))
      → q.frame.pc ≡ place_of m number f (suc p.frame.pc)
      → Ready m full_facts i x (code.with_frames p (code.at p.frame (suc p.frame.pc) p.frame.variables full_slots) p.below)
      (moved_to q q.frame.pc q.frame.words)
  full_ready goes there =
      let anew = stands_anew m k full_facts i x x (into ∷ []) Awaited p q s.stands full_grows (omega arith)
      (λ c free made other. keeps c (other_block c other) free) [] (suc p.frame.pc) q.frame.pc (held.put s.stands.is.known into (Of t []))
      p.frame.variables full_slots q.frame.words q.made (put_long p.frame.slots into (Holds value)) last.0 mine goes refl in
      record {
        stands = anew.stands;
        pc = there
            ∙ (ap (λ (n : ℕ). place_of m n f (suc p.frame.pc)) (sym (anew.number ∙ s.number_is))
            ∙ ap (λ (g : typed.Function). place_of m anew.stands.is.number g (suc p.frame.pc)) (sym (anew.function ∙ s.function_is)));
        spare = ap (λ (g : typed.Function). word_at q.frame.words (pos (spare_place m.adts (types_of m g)))) (anew.function ∙ s.function_is) ∙ s.spare;
        none_made = s.none_made;
      }

  pub full_alike : (sides m).worlds full_facts w x
  full_alike = told_alike m i k w x worlds box inner s.there undecided s.made outer

  -- what changed up to here, and that this is known now
  pub full_changes : (before : Facts) (y : World) → (sides m).changes (Only i) before k y x → (sides m).changes (Only i) before full_facts y x
  full_changes before y changes =
      let then = told_changes m i k w x worlds box inner s.there undecided s.made outer in (
        record {
          grows = record {
            facts = λ n g e. full_grows.facts n g (changes.0.grows.facts n g e);
            makers = λ n j e. full_grows.makers n j (changes.0.grows.makers n j e);
            forms = λ n o e. full_grows.forms n o (changes.0.grows.forms n o e);
          };
          there = changes.0.there;
          free = λ c j free e no.
              let one = changes.0.free c j free e no in
              let two = then.0.free c j (subst (λ o. IsFree o) (sym one.0) free) (changes.0.grows.makers c j e) no in
              (two.0 ∙ one.0, one.1);
          carriers = changes.0.carriers;
        },
        changes.1,
      )
