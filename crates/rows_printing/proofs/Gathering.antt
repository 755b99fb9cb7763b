-- At the call of print the operands' slot comes to stand for a tuple of them, behind an empty text.
use Rattle.std.proofs.Common.{◌≡◌, ℕ, Bool, false, List, [], ◌∷◌, Some, None, inl, inr, refl, sym, ap, ◌∙◌, subst, arith}
use Rattle.std.proofs.Common.{if◌then◌else◌}
use Rattle.std.specs.Prelude.{slice_get, nat_eq}
use Rattle.std.proofs.lemmas.Bool.Decides.{eqb_tells}
use Rattle.heap_model.specs.Facts.{Free, Inner}
use Rattle.limbo_layout.specs.Adts.{Has}
use Rattle.limbo_typed.specs.Typed as typed
use Rattle.limbo_typed.specs.declared.print.Piece.{Piece}
use Rattle.limbo_meaning.specs.Process.{Shared}
use Rattle.limbo_meaning.specs.Values.{Value, Chars, Parts, row}
use Rattle.core_code.specs.Code.{Print}
use Rattle.core_code.specs.Machine as code
use Rattle.core_code.specs.Slots as core
use Rattle.core_code.specs.Slots.{Holds, slot_names}
use Rattle.core_follows.proofs.Slots.{put_other}
use Rattle.core_typing.specs.Held as held
use Rattle.core_typing.specs.Held.{Of}
use Rattle.dis_meaning.specs.Words.{Refer}
use Rattle.dis_meaning.specs.Process.{Process}
use Rattle.dis_memory.specs.Blocks.{Record, World}
use Rattle.value_words.specs.Forms.{OwnedBy}
use Rattle.value_words.specs.Facts.{Facts, Grows}
use Rattle.value_words.proofs.Later.{stands_later}
use Rattle.value_frames.specs.Frames.{number_place, reference_place}
use Rattle.value_frames.specs.Standing.{SlotStands, a_value, WordsAre}
use Rattle.value_frames.specs.Slots.{IsKept}
use Rattle.value_frames.proofs.Slots.{slots_change, put_long}
use Rattle.value_frames.proofs.Later.{frames_later}
use Rattle.value_follows.specs.Stands.{types_of, Awaited}
use Rattle.value_follows.specs.Sides.{sides, contents, HoldTheSame}
use Rattle.value_follows.specs.Rows.{Base}
use Rattle.value_follows.proofs.Open.{open_there}
use Rattle.value_follows.proofs.Waiting.{all_wait_later}
use Rattle.rows_calling.proofs.OnTheWay.{On}
use Rattle.rows_forming.proofs.Gathers.{refers_outside}
use Rattle.rows_forming.proofs.Telling.{told_facts, told, told_grows, told_alike, told_keeps, told_changes}
use Rattle.rows_printing.proofs.Passing.{printed_tuple, IsTogether, together, few, whole, whole_is, idle}
use Rattle.rows_printing.proofs.Printing.{Gathered}

unlike : (a c : ℕ) → (a ≡ c → ⊥) → nat_eq a c ≡ false
unlike a c ne = elim (eqb_tells a c) [ inl y ↦ absurd (ne y.1) | inr y ↦ y.0 ]

module _ (m : typed.Module) (b : Base m) (i : ℕ) (p : code.Process) (n : ℕ) (f : typed.Function) (ps : List Piece) (into a : ℕ)
    (here : slice_get p.frame.code p.frame.pc ≡ Some (Print ps into (Some a)))
    (none : (s : ℕ) → slot_names (core.slot p.frame.slots into) s ≡ 0) (apart : into ≡ a → ⊥)
    (k : Facts) (w : Shared) (x : World) (j : ℕ) (q : Process) (on : On m k i x (into ∷ []) n f j p q)
    (hold : HoldTheSame m k i x p q) (worlds : (sides m).worlds k w x) where
  abbrev r_at : ℕ
  r_at = reference_place m.adts (types_of m f) a

  abbrev n_at : ℕ
  n_at = number_place m.adts (types_of m f) a

  abbrev s : IsTogether m k i x (into ∷ []) n f j p q on ps a
  s = together m b i p n f ps into a here none k x (into ∷ []) j q on (idle m b i p n f ps into a here none apart)

  abbrev tuple_value : Value
  tuple_value = whole m b i p n f ps into a here none k x (into ∷ []) j q on s

  undecided : k.fact s.box ≡ None
  undecided = open_there (contents m) k w.heap x.heap worlds.0 s.box (Record s.inner) s.own.free s.own.there

  box_has : Has (on.words.own a) s.box
  box_has = subst (λ (bs : List ℕ). Has bs s.box) (sym s.own_is) (inl refl)

  outer : (d : ℕ) → Has s.inner (Refer (Some d)) → Inner k d → ⊥
  outer = refers_outside m.adts k (printed_tuple ps) s.inner tuple_value s.own.kind s.forming.stands

  box_made : k.maker s.box ≡ Some i
  box_made = on.mine a s.box box_has

  abbrev facts : Facts
  facts = told_facts m i k w x worlds s.box s.inner s.own.there undecided box_made outer

  grows : Grows k facts
  grows = told_grows m i k w x worlds s.box s.inner s.own.there undecided box_made outer

  keeps : (d : ℕ) → (d ≡ s.box → ⊥) → Free k d → IsKept facts x.heap x.heap d
  keeps = told_keeps m i k w x worlds s.box s.inner s.own.there undecided box_made outer

  abbrev value_then : Value
  value_then = Parts (row (Chars [] ∷ code.operands p.frame.slots (Some a)))

  value_is : tuple_value ≡ value_then
  value_is =
      whole_is m b i p n f ps into a here none k x (into ∷ []) j q on s
      ∙ ap (λ (vs : List Value). Parts (row (Chars [] ∷ vs))) (sym (ap core.operands_of s.holds))

  value_stands : SlotStands m.adts facts x.heap q.frame.serial q.frame.words n_at r_at (Of (printed_tuple ps) s.live) (Holds value_then) []
  value_stands =
      subst (λ (v : Value). SlotStands m.adts facts x.heap q.frame.serial q.frame.words n_at r_at (Of (printed_tuple ps) s.live) (Holds v) []) value_is
      (a_value q.frame.words n_at r_at (printed_tuple ps) s.live tuple_value (
        s.box,
        s.inner,
        s.own.word,
        record {
          carries = told m i k w x worlds s.box s.inner s.own.there undecided box_made outer;
          kind = s.own.kind;
        },
        stands_later m.adts k facts s.inner grows 0 (printed_tuple ps) tuple_value s.forming.stands,
      )
      s.forming.only)

  other_block : (d : ℕ) → (k.form d ≡ Some (OwnedBy q.frame.serial) → ⊥) → d ≡ s.box → ⊥
  other_block d other e = other (ap k.form e ∙ s.own.formed)

  not_box : (r d : ℕ) → (r ≡ a → ⊥) → Has (on.words.own r) d → d ≡ s.box → ⊥
  not_box r d ne h e = ne (on.words.apart r a s.box (subst (λ (z : ℕ). Has (on.words.own r) z) e h) box_has)

  abbrev slots_then : core.Slots
  slots_then = core.put p.frame.slots a (Holds value_then)

  record SlotsThen (known : held.Slots) : Type 0 where
    words : WordsAre m.adts facts x.heap q.frame.serial (into ∷ []) (types_of m f) known p.frame.variables slots_then q.frame.words
    owned : (r d : ℕ) → Has (words.own r) d → Has (on.words.own r) d

  slots_so : SlotsThen (held.put on.known a (Of (printed_tuple ps) s.live))
  slots_so =
      let owned = (frames_later m.adts k x.heap q.frame.serial (into ∷ []) (types_of m f) on.known p.frame.variables p.frame.slots q.frame.words on.words).owned in
      let change = slots_change.slot m.adts k facts x.heap x.heap q.frame.serial (into ∷ []) (types_of m f) on.known p.frame.variables p.frame.slots
      q.frame.words q.frame.words a (Of (printed_tuple ps) s.live) (Holds value_then) [] on.words grows (few m b i p n f ps into a here none k x (into ∷ []) j q on)
      (record { each = λ u no. refl }) on.words.kind value_stands tt
      (λ r d ne h. (λ e. e, keeps d (not_box r d ne h) (owned r d h).0)) in
      let still : held.without a (into ∷ []) ≡ into ∷ [] =
      ap (λ (e : Bool). if e then held.without a [] else into ∷ held.without a []) (unlike a into (λ e. apart (sym e))) in
      go (held.without a (into ∷ [])) still change.after (λ r d h. mine change.after.own r d change.here change.elsewhere h)
    where
      mine : (own : ℕ → List ℕ) (r d : ℕ) → own a ≡ [] → ((u : ℕ) → (u ≡ a → ⊥) → own u ≡ on.words.own u) → Has (own r) d → Has (on.words.own r) d
      mine own r d e g h = elim (eqb_tells r a) [
        | inl y ↦ absurd (subst (λ (o : List ℕ). Has o d) (ap own y.1 ∙ e) h)
        | inr y ↦ subst (λ (o : List ℕ). Has o d) (g r y.1) h
      ]

      go : (busy_then : List ℕ) → busy_then ≡ into ∷ []
          → (ws : WordsAre m.adts facts x.heap q.frame.serial busy_then (types_of m f) (held.put on.known a (Of (printed_tuple ps) s.live)) p.frame.variables slots_then q.frame.words)
          → ((r d : ℕ) → Has (ws.own r) d → Has (on.words.own r) d) → SlotsThen (held.put on.known a (Of (printed_tuple ps) s.live))
      go busy_then e =
          subst (λ (l : List ℕ). (ws : WordsAre m.adts facts x.heap q.frame.serial l (types_of m f) (held.put on.known a (Of (printed_tuple ps) s.live)) p.frame.variables slots_then q.frame.words)
          → ((r d : ℕ) → Has (ws.own r) d → Has (on.words.own r) d) → SlotsThen (held.put on.known a (Of (printed_tuple ps) s.live))) (sym e)
          (λ ws mine. record { words = ws; owned = mine })

  pub gathers : Gathered m b i p n f ps into (Some a) here none k w x q on.known
  gathers =
      let so = subst (λ (h : held.Held). SlotsThen (held.put on.known a h)) (sym (ap held.formed s.known_so)) slots_so in
      record {
        now = facts;
        grows = grows;
        changes = told_changes m i k w x worlds s.box s.inner s.own.there undecided box_made outer;
        after = told_alike m i k w x worlds s.box s.inner s.own.there undecided box_made outer;
        words = so.words;
        mine = λ r d h. grows.makers d i (on.mine r d (so.owned r d h));
        waits = all_wait_later m k facts i x x q.frame.serial grows (omega arith) (λ d free made other. keeps d (other_block d other) free) Awaited
            p.frame.answer q.frame p.below q.below (omega arith) on.waits;
        long = put_long p.frame.slots a (Holds value_then);
        unnamed = λ o. ap (λ (l : core.Slot). slot_names l o) (put_other p.frame.slots a into (Holds value_then) apart) ∙ none o;
      }
