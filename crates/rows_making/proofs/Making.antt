-- A record that a slot is to refer to, on its way: until it is full the slot is busy. What it will be, once it stands for something, its form
-- tells. (As `rows_boxes` has it of boxes, which their frames own.)
use Rattle.std.proofs.Common.{◌≡◌, ℕ, suc, pos, ◌+◌, List, [], ◌∷◌, Option, Some, None, sym, ap, subst, ◌∙◌, arith, inl, inr}
use Rattle.process_ways.specs.Ways.{Way}
use Rattle.heap_model.specs.Heap.{at}
use Rattle.heap_model.specs.Facts.{IsFree, IsInner, Free}
use Rattle.limbo_types.specs.Types.{Ty}
use Rattle.limbo_layout.specs.Adts.{Has}
use Rattle.limbo_typed.specs.Typed as typed
use Rattle.limbo_meaning.specs.Process.{Shared}
use Rattle.core_code.specs.Machine as code
use Rattle.core_code.specs.Slots as core
use Rattle.core_code.specs.Slots.{slot_names}
use Rattle.dis_meaning.specs.Words.{Word, Refer, Found, word_at}
use Rattle.dis_meaning.specs.Process.{Process}
use Rattle.dis_memory.specs.Blocks.{World, Record}
use Rattle.value_words.specs.Forms.{Form}
use Rattle.value_words.specs.Facts.{Facts}
use Rattle.value_roots.specs.Accounts.{all_words, Accounted, AllAccounted, to_nothing, to_inner, none}
use Rattle.value_frames.specs.Frames.{reference_place, spare_place, box_bytes, room_for}
use Rattle.value_frames.specs.Types.{AreOf}
use Rattle.value_follows.specs.Stands.{types_of, place_of, Awaited, Stands, ReferNowhere}
use Rattle.value_follows.specs.Sides.{sides, HoldTheSame}
use Rattle.value_follows.specs.Rows.{place, AreThere, Base}
use Rattle.value_follows.proofs.Several.{Next}
use Rattle.rows_boxes.proofs.Boxing.{names_word, bare_accounted, only_one}

module _ (m : typed.Module) (number : ℕ) (f : typed.Function) (t : Ty) (of : Form) (into : ℕ) where
  abbrev pub box_place : ℕ
  box_place = reference_place m.adts (types_of m f) into

  -- So many instructions behind the begin of a row of the function of this number, the slot refers to this record, with these words.
  pub record Making (j box : ℕ) (inner : List Word) (k : Facts) (i : ℕ) (x : World) (p : code.Process) (q : Process) : Type 0 where
    pub stands : Stands m k i x (into ∷ []) Awaited p q
    pub number_is : stands.is.number ≡ number
    pub function_is : stands.is.function ≡ f
    pub pc : q.frame.pc ≡ place_of m number f p.frame.pc + j
    pub spare : word_at q.frame.words (pos (spare_place m.adts (types_of m f))) ≡ Found (Refer None)
    pub none_made : q.made ≡ []
    pub word : word_at q.frame.words (pos box_place) ≡ Found (Refer (Some box))
    pub there : at x.heap box ≡ Some (Record inner)
    pub none : k.fact box ≡ None
    pub made : k.maker box ≡ Some i
    pub formed : k.form box ≡ Some of
    pub kind : AreOf (box_bytes m.adts t) (room_for m.adts t).references inner
    pub bare : ReferNowhere inner
    pub apart : (s : ℕ) → Has (stands.is.words.own s) box → ⊥
    pub unnamed : (n : ℕ) → slot_names (core.slot p.frame.slots into) n ≡ 0

  module _ (b : Base m) (j box : ℕ) (inner : List Word) (i : ℕ) (p : code.Process) (q : Process) where
    -- it stays so while others step
    pub making_later : (k now : Facts) (x y : World) → Making j box inner k i x p q → (sides m).leaves i k now x y → HoldTheSame m now i y p q
        → Making j box inner now i y p q
    making_later k now x y s left holds =
        let after = b.stands_later k now i x y (into ∷ []) Awaited p q s.stands left holds in
        let free : Free k box = subst IsFree (sym s.none) tt in
        let kept = b.mine_later k now i x y p q left holds box (names_word q box_place box s.word) free s.made in
        record {
          stands = after.0;
          number_is = after.1.number ∙ s.number_is;
          function_is = after.1.function ∙ s.function_is;
          pc = s.pc;
          spare = s.spare;
          none_made = s.none_made;
          word = s.word;
          there = kept.1 ∙ s.there;
          none = elim (left.0.free box free s.made) [
            | inl same ↦ same.0 ∙ s.none
            | inr gone ↦ absurd (let z : None ≡ Some (Record inner) = sym gone.1 ∙ (kept.1 ∙ s.there) in cc)
          ];
          made = left.0.grows.makers box i s.made;
          formed = left.0.grows.forms box _ s.formed;
          kind = s.kind;
          bare = s.bare;
          apart = λ r h. s.apart r (subst (λ (o : ℕ → List ℕ). Has (o r) box) after.1.own h);
          unnamed = s.unnamed;
        }

    module _ (k : Facts) (x : World) (s : Making j box inner k i x p q) where
      box_accounted : (names : ℕ → ℕ) → Accounted k i x.heap names (Refer (Some box))
      box_accounted names =
          to_inner box (Record inner) (subst IsInner (sym s.none) tt) s.there (λ free. s.made) (bare_accounted k i x names inner s.bare)

      slot_accounted : (names : ℕ → ℕ) (r : ℕ) → Has (into ∷ []) r → (o : Option ℕ)
          → word_at q.frame.words (pos (reference_place m.adts (types_of m s.stands.is.function) r)) ≡ Found (Refer o)
          → Accounted k i x.heap names (Refer o)
      slot_accounted names r h o e =
          let same : reference_place m.adts (types_of m s.stands.is.function) r ≡ box_place =
          ap (λ (g : typed.Function). reference_place m.adts (types_of m g) r) s.function_is
          ∙ ap (λ (a : ℕ). reference_place m.adts (types_of m f) a) (sym (only_one into r h)) in
          let found : Found (Refer o) ≡ Found (Refer (Some box)) = sym e ∙ (ap (λ (a : ℕ). word_at q.frame.words (pos a)) same ∙ s.word) in
          let is : Some box ≡ o = cc in
          subst (λ (a : Option ℕ). Accounted k i x.heap names (Refer a)) is (box_accounted names)

      spare_accounted : (names : ℕ → ℕ) (o : Option ℕ)
          → word_at q.frame.words (pos (spare_place m.adts (types_of m s.stands.is.function))) ≡ Found (Refer o)
          → Accounted k i x.heap names (Refer o)
      spare_accounted names o e =
          let same = ap (λ (g : typed.Function). spare_place m.adts (types_of m g)) s.function_is in
          let found : Found (Refer o) ≡ Found (Refer None) = sym e ∙ (ap (λ (a : ℕ). word_at q.frame.words (pos a)) same ∙ s.spare) in
          let is : None ≡ o = cc in
          subst (λ (a : Option ℕ). Accounted k i x.heap names (Refer a)) is to_nothing

      -- the two hold the same
      pub making_holds : (w : Shared) → (sides m).worlds k w x → AreThere m x q → HoldTheSame m k i x p q
      making_holds w worlds live =
          b.holds_on_way k i w x (into ∷ []) Awaited p q s.stands worlds live
          (record {
            slots = λ r h o e. slot_accounted (code.process_names p) r h o e;
            spare = λ o e. spare_accounted (code.process_names p) o e;
            made = subst (λ fs. AllAccounted k i x.heap (code.process_names p) (all_words fs)) (sym s.none_made) none;
            answer = tt;
          })
          (λ r n h u. absurd (
          let same = ap (λ (a : ℕ). slot_names (core.slot p.frame.slots a) n) (only_one into r h) in
          let z = s.unnamed n in
          omega (arith, u, same, z)))

  -- a way goes on from there as the next instruction does, whatever others do before it
  pub making_way : (b : Base m) (n j box : ℕ) (inner : List Word) (i : ℕ) (p : code.Process) (q : Process) (k : Facts) (x : World)
      → Making j box inner k i x p q → HoldTheSame m k i x p q
      → ((now : Facts) (w : Shared) (y : World) → Making j box inner now i y p q → HoldTheSame m now i y p q → (sides m).worlds now w y
      → Next m b i p n now w y q)
      → Way (sides m) (place m) (suc n) k i x p q
  making_way b n j box inner i p q k x s hold does = (
    hold,
    λ now y w l h worlds. does now w y (making_later b j box inner i p q k now x y s l h) h worlds,
  )
