-- A return to the frame below, which has the answer.
use Rattle.std.proofs.Common.{◌≡◌, ℕ, ◌<◌, ◌≤◌, ℤ, pos, ◌+ℤ◌, List, [], ◌∷◌, Some, sym, ap, ◌∙◌, subst, arith}
use Rattle.std.specs.Prelude.{slice_get}
use Rattle.std.proofs.lemmas.Int.{ints}
use Rattle.dis_isa.specs.declared.inst.Operand as isa
use Rattle.dis_isa.specs.declared.inst.Operand.TheVariants as operand
use Rattle.limbo_values.specs.declared.number.Kind.{Kind}
use Rattle.limbo_values.specs.declared.number.Kind.TheVariants.{Byte, Int, Big}
use Rattle.limbo_values.specs.Numbers.{InRange}
use Rattle.system_model.specs.Values.{Value}
use Rattle.system_model.specs.Limits.{frames_limit}
use Rattle.typed_meaning.specs.World as program
use Rattle.slot_code.specs.Code.{Spot, Variable, Global, Temporary, Argument, Function, Module}
use Rattle.slot_code.specs.Machine as machine
use Rattle.dis_meaning.specs.Words.{Word, Address, InFrame, InBlock, Found, ◌>>=◌, type_check, or_wrong, stored}
use Rattle.dis_meaning.specs.Numbers.{with_number_at}
use Rattle.dis_meaning.specs.World.{Instance, World, with_content}
use Rattle.dis_meaning.specs.Process.{Frame, Process, with_words, with_frames}
use Rattle.dis_meaning.specs.Places as places
use Rattle.dis_meaning.specs.Places.{Far, Memory, data_at, spot, behind, source_of, store, store_number, with_data}
use Rattle.dis_meaning.specs.Step as dis_step
use Rattle.dis_meaning.specs.Step.{next}
use Rattle.dis_objects.specs.Frames.{Callee, made_at, all_bytes, most_bytes}
use Rattle.dis_objects.specs.Code.{spot_kind, moving, move_op, global_place}
use Rattle.dis_objects.specs.Objects.{object_of}
use Rattle.dis_follows.specs.Numbers.{Holds}
use Rattle.dis_follows.specs.Stands.{Known, StackStands, FrameWaits, address_of, WorldStands}
use Rattle.dis_follows.proofs.Rooms.{most_least}
use Rattle.dis_follows.proofs.Frames.{get_within}
use Rattle.dis_follows.proofs.Written.{Stored, store_at, store_word, stored_as}
use Rattle.dis_follows.proofs.Operands.{data_are}
use Rattle.dis_follows.proofs.Obeys.{moves_int, moves_byte, moves_big, plain_source}
use Rattle.dis_follows.proofs.Puts as puts
use Rattle.dis_follows.proofs.Passed.{none_below}
use Rattle.dis_follows.proofs.Far as far

plus_zero : (n : ℕ) → pos n +ℤ pos 0 ≡ pos n
plus_zero n = omega (arith, ints)

module _ (m : Module) (k : Known) (w : program.World) (x : World) (ws : WorldStands m k w x) (p : machine.Process) (r : Process)
    (F : Function)
    (g : machine.Frame) (gs : List machine.Frame) (f : Frame) (fs : List Frame) (wf : FrameWaits m g f)
    (address : slice_get r.frame.words 4 ≡ Some (address_of m g wf.stands.function f.serial g.into)) (less : f.serial < r.frame.serial)
    (rest : StackStands m wf.stands.function f gs fs) (is : r.below ≡ f ∷ fs) (made : r.made ≡ []) where
  abbrev T : Function
  T = wf.stands.function

  abbrev CS : List Callee
  CS = made_at T.code g.pc

  -- The process as it is when that frame runs.
  abbrev Q : Process
  Q = with_frames r f fs []

  pub fits : all_bytes m.functions CS ≤ most_bytes m.functions [] T.code
  fits = let l = get_within T.code g.pc wf.stands.inst wf.stands.there in most_least m.functions [] T.code g.pc (omega (arith, l))

  abbrev pub W : Spot → List Word
  W into = puts.words_of m k w x ws g Q T CS wf.stands.has fits wf.stands.instance wf.stands.first into

  abbrev pub B : Spot → ℕ
  B into = puts.bytes_of m k w x ws g Q T CS wf.stands.has fits wf.stands.instance wf.stands.first into

  abbrev pub M : Spot → List Word → Memory
  M into after = puts.remembered m k w x ws g Q T CS wf.stands.has fits wf.stands.instance wf.stands.first into after

  -- The memory of the process that returns, when that frame has these words, or the module's data.
  abbrev pub R : Spot → List Word → Memory
  R (Global j y) after = record { world = with_content x 0 (Instance 0 after); process = r }
  R s after = record { world = x; process = with_frames r r.frame (with_words f after ∷ fs) [] }

  abbrev pub there : Spot → places.Spot
  there (Global j y) = Far (InBlock 0) (pos (global_place m.globals j y))
  there s = Far (InFrame f.serial) (pos (B s))

  own : r.frame.serial ≡ f.serial → ⊥
  own e = omega (arith, e, less)

  below : far.NoneHas f.serial fs
  below = none_above rest
    where
      none_above : StackStands m T f gs fs → far.NoneHas f.serial fs
      none_above h = go fs gs T f h (omega arith)
        where
          go : (fs : List Frame) (gs : List machine.Frame) (t : Function) (q : Frame) → StackStands m t q gs fs → q.serial ≤ f.serial
              → far.NoneHas f.serial fs
          go [] gs t q h l = tt
          go (q' ∷ fs) [] t q h l = absurd h
          go (q' ∷ fs) (g' ∷ gs) t q h l =
              let d = h.3 in ((λ e. omega (arith, e, d, l)), none_below m h.0.stands.function q' gs fs f.serial h.4 (omega (arith, d, l)))

  behind_is : (into : Spot) → behind (address_of m g T f.serial into) (pos 0) ≡ Found (there into)
  behind_is (Variable j y) = ap (λ z. Found (Far (InFrame f.serial) z)) (plus_zero (B (Variable j y)))
  behind_is (Global j y) = ap (λ z. Found (Far (InBlock 0) z)) (plus_zero (global_place m.globals j y))
  behind_is (Temporary j y) = ap (λ z. Found (Far (InFrame f.serial) z)) (plus_zero (B (Temporary j y)))
  behind_is (Argument j y) = ap (λ z. Found (Far (InFrame f.serial) z)) (plus_zero (B (Argument j y)))

  -- The answer goes there.
  pub to : spot x r (operand.IndFp (pos 16) (pos 0)) ≡ Found (there g.into)
  to = ap (λ o. or_wrong type_check o >>= λ w. behind w (pos 0)) address ∙ behind_is g.into

  data_kept : (after : List Word) → with_data x 0 after ≡ Found (with_content x 0 (Instance 0 after))
  data_kept after =
      ap (λ bs. or_wrong Rattle.dis_meaning.specs.Words.dead_address (slice_get bs 0) >>= λ c.
      Found (with_content x 0 (places.renewed after c))) ws.blocks

  number_stored : (into : Spot) (z : ℤ) (after : List Word) → with_number_at (spot_kind into) (W into) (pos (B into)) z ≡ Found after
      → store_number (spot_kind into) x r (there into) z ≡ Found (R into after)
  number_stored (Variable j y) z after e = locals j (B (Variable j y)) z after e
    where
      locals : (j : Kind) (at : ℕ) (z : ℤ) (after : List Word) → with_number_at j f.words (pos at) z ≡ Found after
          → store_number j x r (Far (InFrame f.serial) (pos at)) z
          ≡ Found (record { world = x; process = with_frames r r.frame (with_words f after ∷ fs) [] })
      locals j at z after e =
          ap (λ a. a >>= λ words. with_number_at j words (pos at) z >>= places.with_words_at x r (Far (InFrame f.serial) (pos at)))
          (far.below_words x r f fs is made own below (pos at))
          ∙ ap (λ a. a >>= places.with_words_at x r (Far (InFrame f.serial) (pos at))) e
          ∙ far.below_with x r f fs is made own below (pos at) after
  number_stored (Temporary j y) z after e =
      ap (λ a. a >>= λ words. with_number_at j words (pos (B (Temporary j y))) z >>= places.with_words_at x r (there (Temporary j y)))
      (far.below_words x r f fs is made own below (pos (B (Temporary j y))))
      ∙ ap (λ a. a >>= places.with_words_at x r (there (Temporary j y))) e
      ∙ far.below_with x r f fs is made own below (pos (B (Temporary j y))) after
  number_stored (Argument j y) z after e =
      ap (λ a. a >>= λ words. with_number_at j words (pos (B (Argument j y))) z >>= places.with_words_at x r (there (Argument j y)))
      (far.below_words x r f fs is made own below (pos (B (Argument j y))))
      ∙ ap (λ a. a >>= places.with_words_at x r (there (Argument j y))) e
      ∙ far.below_with x r f fs is made own below (pos (B (Argument j y))) after
  number_stored (Global j y) z after e =
      ap (λ a. a >>= λ words. with_number_at j words (pos (global_place m.globals j y)) z >>= places.with_words_at x r (there (Global j y)))
      (data_are m k w x ws)
      ∙ ap (λ a. a >>= places.with_words_at x r (there (Global j y))) e
      ∙ ap (λ a. a >>= λ y. Found (record { world = y; process = r })) (data_kept after)

  word_stored : (into : Spot) (new : Word) (after : List Word) → stored (W into) (pos (B into)) new ≡ Found after
      → store x r (there into) new ≡ Found (R into after)
  word_stored (Variable j y) new after e = far.below_stored x r f fs is made own below (pos (B (Variable j y))) new after e
  word_stored (Temporary j y) new after e = far.below_stored x r f fs is made own below (pos (B (Temporary j y))) new after e
  word_stored (Argument j y) new after e = far.below_stored x r f fs is made own below (pos (B (Argument j y))) new after e
  word_stored (Global j y) new after e =
      ap (λ a. a >>= λ words. stored words (pos (global_place m.globals j y)) new >>= places.with_words_at x r (there (Global j y)))
      (data_are m k w x ws)
      ∙ ap (λ a. a >>= places.with_words_at x r (there (Global j y))) e
      ∙ ap (λ a. a >>= λ y. Found (record { world = y; process = r })) (data_kept after)

  -- What the move does.
  pub record Gives (s : isa.Operand) (z : ℤ) : Type 0 where
    pub stored : Stored (spot_kind g.into) (W g.into) (B g.into) z
    pub does : dis_step.obey frames_limit (object_of m) x r (moving (spot_kind g.into) s (operand.IndFp (pos 16) (pos 0)))
        (move_op (spot_kind g.into))
        ≡ Found (next (R g.into stored.after))

  pub gives : (j : Kind) → spot_kind g.into ≡ j → (s : isa.Operand) (z : ℤ) → InRange (spot_kind g.into) z
      → source_of (spot_kind g.into) x r s ≡ Found z
      → Gives s z
  gives j kind s z range reads =
      let v = puts.held m k w x ws g Q T CS wf.stands.has fits wf.stands.instance wf.stands.first g.into wf.into wf.few in
      go j kind v.0 v.1
    where
      go : (j : Kind) → spot_kind g.into ≡ j → (v : Value) → Holds (spot_kind g.into) (W g.into) (B g.into) v → Gives s z
      go Byte kind v h =
          let t = store_at (spot_kind g.into) (W g.into) (B g.into) v z h range in
          record {
            stored = t.stored;
            does = subst (λ j. (source_of j x r s ≡ Found z) → (store_number j x r (there g.into) z ≡ Found (R g.into t.stored.after))
                → dis_step.obey frames_limit (object_of m) x r (moving j s (operand.IndFp (pos 16) (pos 0))) (move_op j)
                ≡ Found (next (R g.into t.stored.after)))
                (sym kind) (λ a b. moves_byte frames_limit (object_of m) x r s (operand.IndFp (pos 16) (pos 0)) z _ _ a to b) reads
                (number_stored g.into z t.stored.after t.is);
          }
      go Big kind v h =
          let t = store_at (spot_kind g.into) (W g.into) (B g.into) v z h range in
          record {
            stored = t.stored;
            does = subst (λ j. (source_of j x r s ≡ Found z) → (store_number j x r (there g.into) z ≡ Found (R g.into t.stored.after))
                → dis_step.obey frames_limit (object_of m) x r (moving j s (operand.IndFp (pos 16) (pos 0))) (move_op j)
                ≡ Found (next (R g.into t.stored.after)))
                (sym kind) (λ a b. moves_big frames_limit (object_of m) x r s (operand.IndFp (pos 16) (pos 0)) z _ _ a to b) reads
                (number_stored g.into z t.stored.after t.is);
          }
      go Int kind v h =
          let q = plain_source frames_limit (object_of m) x r s z (subst (λ j. source_of j x r s ≡ Found z) kind reads) in
          let t = store_word (W g.into) (B g.into) v q.word z (subst (λ j. Holds j (W g.into) (B g.into) v) kind h) q.is_plain q.reads in
          record {
            stored = stored_as Int (spot_kind g.into) (sym kind) (W g.into) (B g.into) z t.stored;
            does = subst (λ j. dis_step.obey frames_limit (object_of m) x r (moving j s (operand.IndFp (pos 16) (pos 0))) (move_op j)
                ≡ Found (next (R g.into t.stored.after)))
                (sym kind)
                (moves_int frames_limit (object_of m) x r s (operand.IndFp (pos 16) (pos 0)) q.word _ _ q.is to
                (word_stored g.into q.word t.stored.after t.is));
          }
