-- What is put together in a slot, on its way: until the row is at its end the slot is busy.
use Rattle.std.proofs.Common.{◌≡◌, ℕ, suc, pos, ◌+◌, ◌<◌, List, [], ◌∷◌, ◌++◌, Option, Some, None, sym, ap, subst, ◌∙◌, arith, inl, inr}
use Rattle.process_ways.specs.Ways.{Way}
use Rattle.heap_model.specs.Heap.{at}
use Rattle.heap_model.specs.Facts.{Free}
use Rattle.heap_model.proofs.Alike.{is_inner}
use Rattle.limbo_types.specs.Types.{Ty}
use Rattle.limbo_layout.specs.Adts.{Has}
use Rattle.limbo_layout.proofs.Rooms.{has_left}
use Rattle.limbo_typed.specs.Typed as typed
use Rattle.limbo_meaning.specs.Process.{Shared}
use Rattle.limbo_meaning.specs.Values.{Value, references, among}
use Rattle.core_code.specs.Machine as code
use Rattle.core_code.specs.Slots as core
use Rattle.core_code.specs.Slots.{slot_names}
use Rattle.core_typing.specs.Held as held
use Rattle.dis_meaning.specs.Words.{Word, Refer, Found, word_at}
use Rattle.dis_meaning.specs.Process.{Process}
use Rattle.dis_memory.specs.Blocks.{World, Record}
use Rattle.dis_memory.specs.Naming as machine
use Rattle.value_words.specs.Forms.{OwnedBy}
use Rattle.value_words.specs.Facts.{Facts}
use Rattle.value_words.specs.Stands as memory
use Rattle.value_words.proofs.Covered.{covered}
use Rattle.value_words.proofs.Later.{stands_later}
use Rattle.value_roots.specs.Accounts.{all_words, process_words, Accounted, AllAccounted, to_nothing, to_inner, to_value, none, LeadTo, it, through}
use Rattle.value_roots.proofs.Words.{has_counts}
use Rattle.value_frames.specs.Frames.{reference_place, spare_place, box_bytes, room_for}
use Rattle.value_frames.specs.Types.{AreOf}
use Rattle.value_follows.specs.Stands.{types_of, place_of, Awaited, Stands}
use Rattle.value_follows.specs.Sides.{sides, HoldTheSame}
use Rattle.value_follows.specs.Rows.{place, AreThere, Base}
use Rattle.value_follows.proofs.RootedValues.{word_has, kind_accounted, covers_those, stands_laid, value_referred}
use Rattle.value_follows.proofs.Several.{Next}

-- a block that a word of the running frame refers to is named
pub names_word : (q : Process) (at b : ℕ) → word_at q.frame.words (pos at) ≡ Found (Refer (Some b)) → 0 < machine.names q b
names_word q at b e = let h = has_counts q.frame.words b (word_has q.frame.words at (Refer (Some b)) e) in omega (arith, h)

pub only_one : (a s : ℕ) → Has (a ∷ []) s → a ≡ s
only_one a s (inl e) = e
only_one a s (inr h) = absurd h

module _ (m : typed.Module) (number : ℕ) (f : typed.Function) (t : Ty) (into : ℕ) where
  abbrev pub box_place : ℕ
  box_place = reference_place m.adts (types_of m f) into

  -- So many instructions behind the begin of a row of the function of this number, the slot refers to this record, whose words stand for a
  -- value. What that names the process does, and what the slot names the value does.
  pub record Builds (far box : ℕ) (inner : List Word) (value : Value) (known : held.Slots) (k : Facts) (i : ℕ) (x : World) (p : code.Process) (q : Process)
      : Type 0 where
    pub stands : Stands m k i x (into ∷ []) Awaited p q
    pub number_is : stands.is.number ≡ number
    pub function_is : stands.is.function ≡ f
    pub known_is : stands.is.known ≡ known
    pub pc : q.frame.pc ≡ place_of m number f p.frame.pc + far
    pub spare : word_at q.frame.words (pos (spare_place m.adts (types_of m f))) ≡ Found (Refer None)
    pub none_made : q.made ≡ []
    pub word : word_at q.frame.words (pos box_place) ≡ Found (Refer (Some box))
    pub there : at x.heap box ≡ Some (Record inner)
    pub free : Free k box
    pub made : k.maker box ≡ Some i
    pub formed : k.form box ≡ Some (OwnedBy q.frame.serial)
    pub kind : AreOf (box_bytes m.adts t) (room_for m.adts t).references inner
    pub is : memory.Stands m.adts k inner 0 t value
    pub apart : (s : ℕ) → Has (stands.is.words.own s) box → ⊥
    pub named : (n : ℕ) → 0 < among n (references value) → 0 < code.process_names p n
    pub leads : (n : ℕ) → 0 < slot_names (core.slot p.frame.slots into) n → 0 < among n (references value)

  module _ (b : Base m) (far box : ℕ) (inner : List Word) (value : Value) (known : held.Slots) (i : ℕ) (p : code.Process) (q : Process) where
    -- it stays so while others step
    pub builds_later : (k now : Facts) (x y : World) → Builds far box inner value known k i x p q → (sides m).leaves i k now x y
        → HoldTheSame m now i y p q → Builds far box inner value known now i y p q
    builds_later k now x y s left holds =
        let after = b.stands_later k now i x y (into ∷ []) Awaited p q s.stands left holds in
        let kept = b.mine_later k now i x y p q left holds box (names_word q box_place box s.word) s.free s.made in
        record {
          stands = after.0;
          number_is = after.1.number ∙ s.number_is;
          function_is = after.1.function ∙ s.function_is;
          known_is = after.1.known ∙ s.known_is;
          pc = s.pc;
          spare = s.spare;
          none_made = s.none_made;
          word = s.word;
          there = kept.1 ∙ s.there;
          free = kept.0;
          made = left.0.grows.makers box i s.made;
          formed = left.0.grows.forms box _ s.formed;
          kind = s.kind;
          is = stands_later m.adts k now inner left.0.grows 0 t value s.is;
          apart = λ r g. s.apart r (subst (λ (o : ℕ → List ℕ). Has (o r) box) after.1.own g);
          named = s.named;
          leads = s.leads;
        }

    module _ (k : Facts) (x : World) (s : Builds far box inner value known k i x p q) where
      box_accounted : Accounted k i x.heap (code.process_names p) (Refer (Some box))
      box_accounted =
          to_inner box (Record inner) (is_inner (k.fact box) s.free) s.there (λ free. s.made)
          (kind_accounted k i x.heap (code.process_names p) (box_bytes m.adts t) (room_for m.adts t).references inner s.kind (λ o c g e.
          let zero_off : 0 + o ≡ o = omega arith in
          to_value c (covers_those m.adts k (code.process_names p) (references value) c s.named
          (covered m.adts k inner 0 t (room_for m.adts t) value o c (stands_laid m.adts k inner 0 t value s.is) s.is g
          (ap (λ (j : ℕ). word_at inner (pos j)) zero_off ∙ e)))))

      slot_accounted : (r : ℕ) → Has (into ∷ []) r → (o : Option ℕ)
          → word_at q.frame.words (pos (reference_place m.adts (types_of m s.stands.is.function) r)) ≡ Found (Refer o)
          → Accounted k i x.heap (code.process_names p) (Refer o)
      slot_accounted r g o e =
          let same : reference_place m.adts (types_of m s.stands.is.function) r ≡ box_place =
          ap (λ (g : typed.Function). reference_place m.adts (types_of m g) r) s.function_is
          ∙ ap (λ (a : ℕ). reference_place m.adts (types_of m f) a) (sym (only_one into r g)) in
          let found : Found (Refer o) ≡ Found (Refer (Some box)) = sym e ∙ (ap (λ (a : ℕ). word_at q.frame.words (pos a)) same ∙ s.word) in
          let is : Some box ≡ o = cc in
          subst (λ (a : Option ℕ). Accounted k i x.heap (code.process_names p) (Refer a)) is box_accounted

      spare_accounted : (o : Option ℕ) → word_at q.frame.words (pos (spare_place m.adts (types_of m s.stands.is.function))) ≡ Found (Refer o)
          → Accounted k i x.heap (code.process_names p) (Refer o)
      spare_accounted o e =
          let same = ap (λ (g : typed.Function). spare_place m.adts (types_of m g)) s.function_is in
          let found : Found (Refer o) ≡ Found (Refer None) = sym e ∙ (ap (λ (a : ℕ). word_at q.frame.words (pos a)) same ∙ s.spare) in
          let is : None ≡ o = cc in
          subst (λ (a : Option ℕ). Accounted k i x.heap (code.process_names p) (Refer a)) is to_nothing

      box_leads : (n : ℕ) → 0 < slot_names (core.slot p.frame.slots into) n → LeadTo k x.heap n (process_words q)
      box_leads n g =
          let r = value_referred m.adts k inner 0 t value n s.is (s.leads n g) in
          through (process_words q) box (Record inner)
          (inr (has_left q.frame.words (all_words q.below ++ all_words q.made) (Refer (Some box))
          (word_has q.frame.words box_place (Refer (Some box)) s.word)))
          (is_inner (k.fact box) s.free) s.there (it inner r.block r.has r.is)

      -- the two hold the same
      pub builds_hold : (w : Shared) → (sides m).worlds k w x → AreThere m x q → HoldTheSame m k i x p q
      builds_hold w worlds live =
          b.holds_on_way k i w x (into ∷ []) Awaited p q s.stands worlds live
          (record {
            slots = λ r g o e. slot_accounted r g o e;
            spare = λ o e. spare_accounted o e;
            made = subst (λ fs. AllAccounted k i x.heap (code.process_names p) (all_words fs)) (sym s.none_made) none;
            answer = tt;
          })
          (λ r n g u. box_leads n (subst (λ (a : ℕ). 0 < slot_names (core.slot p.frame.slots a) n) (sym (only_one into r g)) u))

  -- a way goes on from there as the next instruction does, whatever others do before it
  pub builds_way : (b : Base m) (n far box : ℕ) (inner : List Word) (value : Value) (known : held.Slots) (i : ℕ) (p : code.Process) (q : Process) (k : Facts)
      (x : World) → Builds far box inner value known k i x p q → HoldTheSame m k i x p q
      → ((now : Facts) (w : Shared) (y : World) → Builds far box inner value known now i y p q → HoldTheSame m now i y p q → (sides m).worlds now w y
      → Next m b i p n now w y q)
      → Way (sides m) (place m) (suc n) k i x p q
  builds_way b n far box inner value known i p q k x s hold does = (
    hold,
    λ now y w l g worlds. does now w y (builds_later b far box inner value known i p q k now x y s l g) g worlds,
  )
