-- A return: of the first function, and the way back to the frame below.
use Rattle.std.proofs.Common.{◌≡◌, ℕ, suc, ◌+◌, ◌<◌, ◌≤◌, ℤ, pos, inl, List, [], ◌∷◌, Some, None, refl, sym, ap, ◌∙◌, subst, arith}
use Rattle.std.specs.Prelude.{slice_get}
use Rattle.process_model.specs.Process.{Went, Ends}
use Rattle.dis_isa.specs.declared.inst.Operand as isa
use Rattle.dis_isa.specs.declared.inst.Operand.TheVariants as operand
use Rattle.limbo_values.specs.declared.number.Kind.{Kind}
use Rattle.limbo_values.specs.declared.number.Kind.TheVariants.{Byte, Int, Big}
use Rattle.limbo_values.specs.Numbers.{InRange}
use Rattle.system_model.specs.Values.{zero_value}
use Rattle.system_model.specs.Ending.{Ended}
use Rattle.system_model.specs.Limits.{frames_limit}
use Rattle.typed_meaning.specs.World as program
use Rattle.slot_code.specs.Code.{Inst, Return, Leave, Function, Module}
use Rattle.slot_code.specs.Layout.{number_size}
use Rattle.slot_code.specs.Machine as machine
use Rattle.slot_code.specs.Step as slot_step
use Rattle.dis_meaning.specs.Words.{Word, Address, InFrame, Found, ◌>>=◌, type_check, or_wrong, number_in}
use Rattle.dis_meaning.specs.Numbers.{nth_number, number_at, with_number_at}
use Rattle.dis_meaning.specs.World.{World}
use Rattle.dis_meaning.specs.Process.{Frame, Process, with_words, with_frames}
use Rattle.dis_meaning.specs.Places.{Far, spot, behind, source_of, store_number, with_words_at}
use Rattle.dis_meaning.specs.Step as dis_step
use Rattle.dis_meaning.specs.Step.{next, returns}
use Rattle.dis_objects.specs.Frames.{Callee, made_at, passing_place}
use Rattle.dis_objects.specs.Code.{Context, place, moving, source, size}
use Rattle.dis_objects.specs.Objects.{context, object_of}
use Rattle.dis_objects.specs.Proper.{IsProper}
use Rattle.dis_follows.specs.Stands.{Known, StackStands, HasNumbers, IsReturn, return_inst, Running, begins, ends, WorldStands}
use Rattle.dis_follows.specs.Paces as paces
use Rattle.dis_follows.proofs.Written.{Stored, store_over, store_word_over}
use Rattle.dis_follows.proofs.Linkage.{linkage_word, linkage_there, number_of_plain, kind_written}
use Rattle.dis_follows.proofs.Obeys.{moves_int, moves_byte, moves_big, plain_source}
use Rattle.dis_follows.proofs.Runs.{step_is, other_step, as_known}
use Rattle.dis_follows.proofs.Far as far
use Rattle.dis_follows.proofs.Advances.{at_word, stack_same, rests, at_once}
use Rattle.dis_follows.proofs.Paces.{place_is}
use Rattle.dis_follows.proofs.JumpsOn.{begin_place}
use Rattle.dis_follows.proofs.Rows as rows
use Rattle.dis_follows.proofs.Decided.{Goal}

-- ---- frames below

pub none_there : (m : Module) (f : Function) (r : Frame) (rs : List Frame) → StackStands m f r [] rs → rs ≡ []
none_there m f r [] h = refl
none_there m f r (q ∷ rs) h = absurd h

last_address : (m : Module) (f : Function) (r : Frame) (rs : List Frame) → StackStands m f r [] rs
    → slice_get r.words 4 ≡ Some (Address (InFrame r.serial) (pos passing_place))
last_address m f r [] h = h
last_address m f r (q ∷ rs) h = absurd h

-- ---- a number of any kind in the linkage

module _ (m : Module) (f : Function) (cs : List Callee) (g : machine.Frame) (words : List Word) (h : HasNumbers m f cs g words) where
  word_number_at : (j : ℕ) → j < 8 → (z : ℤ) × (nth_number words j ≡ Found z)
  word_number_at j l =
      let s = linkage_word m f cs g words h j l in
      let n = number_of_plain m f cs g words h s.0 s.2 in (n.0, ap (λ o. or_wrong type_check o >>= number_in) s.1 ∙ n.1)

  pub answer_there : (k : Kind) → (z : ℤ) × (number_at k words (pos 20) ≡ Found z)
  answer_there Byte = let n = word_number_at 5 (omega arith) in
      (_, ap (λ a. a >>= λ z. Found (pos (Rattle.std.specs.Prelude.slice_index (Rattle.dis_meaning.specs.Numbers.bytes_of z) 0))) n.1)
  answer_there Int = linkage_there m f cs g words h 5 (omega arith)
  answer_there Big =
      let a = word_number_at 5 (omega arith) in
      let b = word_number_at 6 (omega arith) in (
        _,
        ap (λ q. q >>= λ high. nth_number words 6 >>= λ low. Found (Rattle.dis_meaning.specs.Numbers.joined high low)) a.1
            ∙ ap (λ q. q >>= λ low. Found (Rattle.dis_meaning.specs.Numbers.joined a.0 low)) b.1,
      )

module _ (m : Module) (proper : IsProper m) (k : Known) (number : ℕ) (w : program.World) (x : World) (ws : WorldStands m k w x)
    (p : machine.Process) (r : Process) where
  -- ---- the answer of the first function goes to its own linkage

  pub record Answered (j : Kind) (s : isa.Operand) (z : ℤ) : Type 0 where
    pub stored : Stored j r.frame.words 20 z
    pub does : dis_step.obey frames_limit (object_of m) x r (moving j s (operand.IndFp (pos 16) (pos 0)))
        (Rattle.dis_objects.specs.Code.move_op j)
        ≡ Found (next (record { world = x; process = with_frames r (with_words r.frame stored.after) r.below [] }))

  module _ (h : Running m k p r 0 []) (last : p.below ≡ []) where
    stack : StackStands m h.frame.function r.frame [] r.below
    stack = subst (λ gs. StackStands m h.frame.function r.frame gs r.below) last h.stack

    none : r.below ≡ []
    none = none_there m h.frame.function r.frame r.below stack

    to : spot x r (operand.IndFp (pos 16) (pos 0)) ≡ Found (Far (InFrame r.frame.serial) (pos 20))
    to = ap (λ o. or_wrong type_check o >>= λ w. behind w (pos 0)) (last_address m h.frame.function r.frame r.below stack)

    below : far.NoneHas r.frame.serial r.below
    below = subst (far.NoneHas r.frame.serial) (sym none) tt

    stores : (j : Kind) (z : ℤ) (after : List Word) → with_number_at j r.frame.words (pos 20) z ≡ Found after
        → store_number j x r (Far (InFrame r.frame.serial) (pos 20)) z
        ≡ Found (record { world = x; process = with_frames r (with_words r.frame after) r.below [] })
    stores j z after e =
        ap (λ a. a >>= λ words. with_number_at j words (pos 20) z >>= with_words_at x r (Far (InFrame r.frame.serial) (pos 20)))
        (far.own_words x r h.frames below (pos 20))
        ∙ ap (λ a. a >>= with_words_at x r (Far (InFrame r.frame.serial) (pos 20))) e
        ∙ far.own_with x r h.frames below (pos 20) after

    answered : (j : Kind) (s : isa.Operand) (z : ℤ) → InRange j z → source_of j x r s ≡ Found z → Answered j s z
    answered Byte s z range reads =
        let old = answer_there m h.frame.function (made_at h.frame.function.code p.frame.pc) p.frame r.frame.words h.frame.has Byte in
        let t = store_over Byte r.frame.words 20 old.0 z old.1 range in
        record {
          stored = t.stored;
          does = moves_byte frames_limit (object_of m) x r s (operand.IndFp (pos 16) (pos 0)) z _ _ reads to
              (stores Byte z t.stored.after t.is);
        }
    answered Big s z range reads =
        let old = answer_there m h.frame.function (made_at h.frame.function.code p.frame.pc) p.frame r.frame.words h.frame.has Big in
        let t = store_over Big r.frame.words 20 old.0 z old.1 range in
        record {
          stored = t.stored;
          does = moves_big frames_limit (object_of m) x r s (operand.IndFp (pos 16) (pos 0)) z _ _ reads to
              (stores Big z t.stored.after t.is);
        }
    answered Int s z range reads =
        let old = answer_there m h.frame.function (made_at h.frame.function.code p.frame.pc) p.frame r.frame.words h.frame.has Int in
        let q = plain_source frames_limit (object_of m) x r s z reads in
        let t = store_word_over r.frame.words 20 old.0 q.word z old.1 q.is_plain q.reads in
        record {
          stored = t.stored;
          does = moves_int frames_limit (object_of m) x r s (operand.IndFp (pos 16) (pos 0)) q.word _ _ q.is to
              (far.own_stored x r h.frames below (pos 20) q.word t.stored.after t.is);
        }

    -- It stands in front of the return.
    pub last_returns : IsReturn m h.frame.inst → size h.frame.inst ≡ 2 → (s : isa.Operand) (z : ℤ) → InRange h.frame.function.answer z
        → source_of h.frame.function.answer x r s ≡ Found z
        → slice_get (object_of m).insts (place (context m p.frame.function h.frame.function) p.frame.pc)
        ≡ Some (moving h.frame.function.answer s (operand.IndFp (pos 16) (pos 0)))
        → slice_get (object_of m).insts (suc (place (context m p.frame.function h.frame.function) p.frame.pc)) ≡ Some return_inst
        → Goal m proper k number w x ws p r (dis_step.step frames_limit (object_of m ∷ []) x r)
    last_returns is two s z range reads code later =
        let F = h.frame.function in
        let P = place (context m p.frame.function F) p.frame.pc in
        let j = F.answer in
        let a = answered j s z range reads in
        let after = a.stored.after in
        let r' = at_word m k p r 0 [] h after (1 + P) in
        let there = rows.at_row m proper k w x ws p r 0 h (moving j s (operand.IndFp (pos 16) (pos 0))) P (omega arith) code in
        let stepped : suc r.frame.pc ≡ 1 + P = omega (arith, h.frame.here) in
        let steps : dis_step.step frames_limit (object_of m ∷ []) x r ≡ Went x r' =
        step_is m k w x r (moving j s (operand.IndFp (pos 16) (pos 0))) _ ws h.frame.instance there a.does
        ∙ ap (λ fs. Went x (record {
          number = r.number;
          frame = record { serial = r.frame.serial; instance = r.frame.instance; pc = suc r.frame.pc; words = after };
          below = r.below;
          made = fs;
          printing = None;
        })) (sym h.frames)
        ∙ ap (λ n. Went x (at_word m k p r 0 [] h after n)) stepped in
        let low : (j : Kind) → 20 + number_size j ≤ 32 = fits in
        let h' : Running m k p r' 1 [] = record {
          loaded = h.loaded;
          number = h.number;
          frame = record {
            function = F;
            found = h.frame.found;
            inst = h.frame.inst;
            there = h.frame.there;
            here = refl;
            instance = h.frame.instance;
            first = h.frame.first;
            has = kind_written m F (made_at F.code p.frame.pc) p.frame r.frame.words h.frame.has j 20 (low j) z a.stored;
          };
          stack = stack_same m F r.frame r'.frame p.below r.below refl (a.stored.words_stay.others 4 (inl (omega arith))) h.stack;
          frames = h.frames;
          fresh = h.fresh;
        } in
        let begin = begin_place m proper k p r h in
        let far = place_is m r' p.frame.function F p.frame.pc h.frame.inst 1 h.frame.found h.frame.there (omega (arith, two)) refl
        ∙ ap (λ i. paces.rank i r.below 1) (ap (slice_get (object_of m).insts) (let q : 1 + P ≡ suc P = omega arith in q) ∙ later)
        ∙ ap paces.last_rank none in
        subst (Goal m proper k number w x ws p r) (sym steps)
        (rests m (paces.place m) k number x w p (paces.place m r) k x r' (as_known k) (ends h' is last) ws (omega (arith, begin, far)))
      where
        fits : (j : Kind) → 20 + number_size j ≤ 32
        fits Byte = omega arith
        fits Int = omega arith
        fits Big = omega arith

  -- ---- it ends

  pub ends_goes : (h : Running m k p r 1 []) → IsReturn m h.frame.inst → p.below ≡ []
      → slice_get (object_of m).insts r.frame.pc ≡ Some return_inst
      → Goal m proper k number w x ws p r (dis_step.step frames_limit (object_of m ∷ []) x r)
  ends_goes h is last there =
      let stack = subst (λ gs. StackStands m h.frame.function r.frame gs r.below) last h.stack in
      let none = none_there m h.frame.function r.frame r.below stack in
      let steps = step_is m k w x r return_inst (returns x r r.below) ws h.frame.instance there refl ∙ ap (returns x r) none in
      subst (Goal m proper k number w x ws p r) (sym steps) (record {
        now = k;
        changes = as_known k;
        world = w;
        comes = at_once m (paces.place m) k number x w p (paces.place m r) (Ends w Ended)
            (other_step m proper k w x ws p r 1 [] h ∙ over h.frame.inst is);
        worlds = ws;
      })
    where
      over : (i : Inst) → IsReturn m i → slot_step.obey frames_limit m.functions w p i ≡ Ends w Ended
      over (Return o) is = ap (λ gs. machine.returns w p gs (machine.value_of w p.frame o)) last
      over Leave is = ap (λ gs. machine.returns w p gs zero_value) last
      over _ is = absurd is

  -- ---- the way back

  pub goes_back_goes : (f : Frame) (fs : List Frame) → r.below ≡ f ∷ fs → slice_get (object_of m).insts r.frame.pc ≡ Some return_inst
      → paces.place m r ≡ 0 → r.frame.instance ≡ 0 → Running m k p (with_frames r f fs r.made) 0 []
      → Goal m proper k number w x ws p r (dis_step.step frames_limit (object_of m ∷ []) x r)
  goes_back_goes f fs below there far instance h =
      let steps = step_is m k w x r return_inst (returns x r r.below) ws instance there refl ∙ ap (returns x r) below in
      let begin = begin_place m proper k p (with_frames r f fs r.made) h in
      subst (Goal m proper k number w x ws p r) (sym steps)
      (rests m (paces.place m) k number x w p (paces.place m r) k x (with_frames r f fs r.made) (as_known k) (begins h) ws
      (omega (arith, far, begin)))
