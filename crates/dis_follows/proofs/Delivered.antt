-- What a print answers goes to its place, at once or once a reply has come.
use Rattle.std.proofs.Common.{◌≡◌, ℕ, zero, suc, ◌+◌, ◌<◌, ◌≤◌, pos, ℤ, ◌+ℤ◌, Bool, true, false, List, [], ◌∷◌, None, refl, sym, ap, ◌∙◌}
use Rattle.std.proofs.Common.{subst, arith, if◌then◌else◌}
use Rattle.std.specs.Prelude.{slice_get, nat_lt}
use Rattle.std.proofs.lemmas.Int.{ints}
use Rattle.styx_msg.specs.declared.message.Rmsg.{Rmsg}
use Rattle.styx_msg.specs.declared.message.Rmsg.TheVariants as rmsg
use Rattle.limbo_values.specs.declared.number.Kind.TheVariants.{Int}
use Rattle.limbo_values.specs.Numbers.{InRange}
use Rattle.limbo_values.proofs.Ranges.{always}
use Rattle.system_model.specs.Values.{Value, Num}
use Rattle.system_model.specs.World as outside
use Rattle.system_model.specs.World.{end_wait, wrote}
use Rattle.system_model.specs.Prints.{Printing, Answers, Requests, NoReply, Writing, print, hear, go_on, took, refused}
use Rattle.typed_meaning.specs.World as program
use Rattle.typed_meaning.specs.World.{with_outside}
use Rattle.slot_code.specs.Code.{Spot, Variable, Global, Temporary, Argument, Function, Module}
use Rattle.slot_code.specs.Machine as machine
use Rattle.dis_meaning.specs.Words.{Word, Plain, Address, InFrame, InBlock, Place, Found, ◌>>=◌, dead_address, or_wrong, stored}
use Rattle.dis_meaning.specs.World.{Instance, World, with_content}
use Rattle.dis_meaning.specs.Process.{Process, at_pc, with_words, with_frames}
use Rattle.dis_meaning.specs.Places as places
use Rattle.dis_meaning.specs.Places.{Far, Memory, behind, store, with_data, renewed}
use Rattle.dis_meaning.specs.Step.{outside_is}
use Rattle.dis_objects.specs.Frames.{Callee, made_at, all_bytes, most_bytes}
use Rattle.dis_objects.specs.Code.{spot_kind, global_place, place}
use Rattle.dis_objects.specs.Objects.{context}
use Rattle.dis_follows.specs.Stands.{Known, StackStands, FrameWaits, Running, address_of, WorldStands}
use Rattle.dis_follows.proofs.Rooms.{most_least}
use Rattle.dis_follows.proofs.Frames.{get_within}
use Rattle.dis_follows.proofs.Written.{stored_as, store_word}
use Rattle.dis_follows.proofs.Operands.{data_are}
use Rattle.dis_follows.proofs.Puts as puts
use Rattle.dis_follows.proofs.Advances.{stack_same}
use Rattle.dis_follows.proofs.Far as far

-- ---- answers are ints

abbrev pub IsInt : Value → Type 0
IsInt v = (z : ℤ) × (v ≡ Num z) × InRange Int z

-- What it answers, where it does.
abbrev pub AnswersInt : Printing → Type 0
AnswersInt (Answers w v) = IsInt v
AnswersInt (Requests w m k) = Unit {0}
AnswersInt NoReply = Unit {0}

wraps : (z : ℤ) → IsInt (Rattle.system_model.specs.Values.int_of z)
wraps z = (_, refl, always Int z)

pub print_int : (w : outside.World) (t : List ℕ) → AnswersInt (print w t)
print_int w [] = wraps (pos 0)
print_int w (c ∷ cs) = tt

goes_int : (w : outside.World) (n : ℕ) (bs : List ℕ) → AnswersInt (go_on w n bs)
goes_int w n [] = wraps (pos n)
goes_int w n (b ∷ bs) = tt

took_int : (w : outside.World) (k : Writing) (n : ℕ) → AnswersInt (took w k n)
took_int w k n = go (nat_lt n k.asked)
  where
    go : (b : Bool) → AnswersInt (if b then Answers w (Rattle.system_model.specs.Values.int_of (pos (k.written + n))) else go_on w
        (k.written + n) k.left)
    go true = wraps (pos (k.written + n))
    go false = goes_int w (k.written + n) k.left

refused_int : (w : outside.World) (n : ℕ) → AnswersInt (refused w n)
refused_int w zero = wraps _
refused_int w (suc n) = wraps _

pub hear_int : (a : Rmsg) (w : outside.World) (k : Writing) → AnswersInt (hear a w k)
hear_int (rmsg.Write n) w k = go (nat_lt k.asked n)
  where
    go : (b : Bool) → AnswersInt (if b then NoReply else took (wrote n (end_wait k.tag w)) k n)
    go true = tt
    go false = took_int (wrote n (end_wait k.tag w)) k n
hear_int (rmsg.Error e) w k = refused_int (end_wait k.tag w) k.written
hear_int _ w k = tt

-- ---- the outside alone changes

pub outside_stands : (m : Module) (k : Known) (w : program.World) (x : World) → WorldStands m k w x → (v : outside.World)
    → WorldStands m k (with_outside w v) (outside_is x v)
outside_stands m k w x ws v = record {
  outside = refl;
  frames = ws.frames;
  some = ws.some;
  words = ws.words;
  texts = ws.texts;
  more = ws.more;
  blocks = ws.blocks;
  opened = ws.opened;
  has = record {
    path = ws.has.path;
    sys = ws.has.sys;
    module_word = ws.has.module_word;
    loaded = ws.has.loaded;
    many = ws.has.many;
    variables = ws.has.variables;
    constants = ws.has.constants;
    zeros = ws.has.zeros;
  };
}

-- ---- the answer's place

plus_zero : (n : ℕ) → pos n +ℤ pos 0 ≡ pos n
plus_zero n = omega (arith, ints)

module _ (m : Module) (k : Known) (w : program.World) (x : World) (ws : WorldStands m k w x) (p : machine.Process) (r : Process)
    (g : machine.Frame) (pc : ℕ) (wf : FrameWaits m g (at_pc r.frame pc)) (int : g.answer ≡ Int) (none : r.made ≡ [])
    (below : far.NoneHas r.frame.serial r.below) where
  abbrev pub T : Function
  T = wf.stands.function

  abbrev pub CS : List Callee
  CS = made_at T.code g.pc

  pub fits : all_bytes m.functions CS ≤ most_bytes m.functions [] T.code
  fits = let l = get_within T.code g.pc wf.stands.inst wf.stands.there in most_least m.functions [] T.code g.pc (omega (arith, l))

  abbrev pub W : Spot → List Word
  W into = puts.words_of m k w x ws g r T CS wf.stands.has fits wf.stands.instance wf.stands.first into

  abbrev pub B : Spot → ℕ
  B into = puts.bytes_of m k w x ws g r T CS wf.stands.has fits wf.stands.instance wf.stands.first into

  abbrev pub M : Spot → List Word → Memory
  M into after = puts.remembered m k w x ws g r T CS wf.stands.has fits wf.stands.instance wf.stands.first into after

  -- The answer's place.
  abbrev pub at_place : Spot → Place
  at_place (Global j y) = InBlock 0
  at_place s = InFrame r.frame.serial

  abbrev pub at_byte : Spot → ℤ
  at_byte (Global j y) = pos (global_place m.globals j y)
  at_byte s = pos (B s)

  pub address_is : (into : Spot) → address_of m g T r.frame.serial into ≡ Address (at_place into) (at_byte into)
  address_is (Variable j y) = refl
  address_is (Global j y) = refl
  address_is (Temporary j y) = refl
  address_is (Argument j y) = refl

  pub behind_is : (into : Spot) → behind (Address (at_place into) (at_byte into)) (pos 0) ≡ Found (Far (at_place into) (at_byte into))
  behind_is (Variable j y) = ap (λ z. Found (Far (InFrame r.frame.serial) z)) (plus_zero (B (Variable j y)))
  behind_is (Global j y) = ap (λ z. Found (Far (InBlock 0) z)) (plus_zero (global_place m.globals j y))
  behind_is (Temporary j y) = ap (λ z. Found (Far (InFrame r.frame.serial) z)) (plus_zero (B (Temporary j y)))
  behind_is (Argument j y) = ap (λ z. Found (Far (InFrame r.frame.serial) z)) (plus_zero (B (Argument j y)))

  data_kept : (after : List Word) → with_data x 0 after ≡ Found (with_content x 0 (Instance 0 after))
  data_kept after = ap (λ bs. or_wrong dead_address (slice_get bs 0) >>= λ c. Found (with_content x 0 (renewed after c))) ws.blocks

  own_stored : (at : ℕ) (new : Word) (after : List Word) → stored r.frame.words (pos at) new ≡ Found after
      → store x r (Far (InFrame r.frame.serial) (pos at)) new
      ≡ Found (record { world = x; process = with_frames r (with_words r.frame after) r.below r.made })
  own_stored at new after e =
      far.own_stored x r none below (pos at) new after e
      ∙ ap (λ fs. Found (record { world = x; process = with_frames r (with_words r.frame after) r.below fs })) (sym none)

  far_stored : (into : Spot) (new : Word) (after : List Word) → stored (W into) (pos (B into)) new ≡ Found after
      → store x r (Far (at_place into) (at_byte into)) new ≡ Found (M into after)
  far_stored (Variable j y) new after e = own_stored (B (Variable j y)) new after e
  far_stored (Temporary j y) new after e = own_stored (B (Temporary j y)) new after e
  far_stored (Argument j y) new after e = own_stored (B (Argument j y)) new after e
  far_stored (Global j y) new after e =
      ap (λ a. a >>= λ words. stored words (pos (global_place m.globals j y)) new >>= places.with_words_at x r
      (Far (InBlock 0) (at_byte (Global j y))))
      (data_are m k w x ws)
      ∙ ap (λ a. a >>= places.with_words_at x r (Far (InBlock 0) (at_byte (Global j y)))) e
      ∙ ap (λ a. a >>= λ y. Found (record { world = y; process = r })) (data_kept after)

  same_frame : (into : Spot) (v : Value) → ((machine.stored w g into v).frame.function ≡ g.function)
      × ((machine.stored w g into v).frame.instance ≡ g.instance)
  same_frame (Variable j y) v = (refl, refl)
  same_frame (Global j y) v = (refl, refl)
  same_frame (Temporary j n) v = (refl, refl)
  same_frame (Argument j n) v = (refl, refl)

  -- The process that goes on with these words.
  abbrev pub on_with : List Word → Process
  on_with words = record {
    number = r.number;
    frame = record { serial = r.frame.serial; instance = r.frame.instance; pc = pc; words = words };
    below = r.below;
    made = r.made;
    printing = None;
  }

  -- It is as the other's, when that has the answer.
  pub record Delivers (z : ℤ) : Type 0 where
    pub after : List Word
    pub stores : store x r (Far (at_place g.into) (at_byte g.into)) (Plain z) ≡ Found (M g.into after)
    pub goes : with_frames (M g.into after).process (at_pc (M g.into after).process.frame pc) (M g.into after).process.below
        (M g.into after).process.made
        ≡ on_with (M g.into after).process.frame.words
    pub stays : (M g.into after).process.frame.pc ≡ r.frame.pc
    pub runs : k.loaded ≡ true → p.number ≡ r.number → StackStands m T (at_pc r.frame pc) p.below r.below → r.frame.serial < k.frames
        → Running m k (machine.with_frames p (machine.moved (machine.stored w g g.into (Num z)).frame g.pc) p.below)
        (on_with (M g.into after).process.frame.words) 0 []
    pub worlds : WorldStands m k (machine.stored w g g.into (Num z)).world (M g.into after).world

  same_process : (into : Spot) (after : List Word)
      → with_frames (M into after).process (at_pc (M into after).process.frame pc) (M into after).process.below (M into after).process.made
      ≡ on_with (M into after).process.frame.words
  same_process (Variable j y) after = refl
  same_process (Global j y) after = refl
  same_process (Temporary j n) after = refl
  same_process (Argument j n) after = refl

  same_pc : (into : Spot) (after : List Word) → (M into after).process.frame.pc ≡ r.frame.pc
  same_pc (Variable j y) after = refl
  same_pc (Global j y) after = refl
  same_pc (Temporary j n) after = refl
  same_pc (Argument j n) after = refl

  pub delivers : (z : ℤ) → InRange Int z → Delivers z
  delivers z range =
      let kind : spot_kind g.into ≡ Int = wf.kind ∙ int in
      let v = puts.held m k w x ws g r T CS wf.stands.has fits wf.stands.instance wf.stands.first g.into wf.into wf.few in
      let s = store_word (W g.into) (B g.into) v.0 (Plain z) z
      (subst (λ j. Rattle.dis_follows.specs.Numbers.Holds j (W g.into) (B g.into) v.0) kind v.1) tt refl in
      let t = stored_as Int (spot_kind g.into) (sym kind) (W g.into) (B g.into) z s.stored in
      let put = puts.put_there m k w x ws g r T CS wf.stands.has fits wf.stands.instance wf.stands.first g.into z wf.into wf.few
      (subst (λ j. InRange j z) (sym kind) range) t in
      let same = same_frame g.into (Num z) in
      record {
        after = t.after;
        stores = far_stored g.into (Plain z) t.after s.is;
        goes = same_process g.into t.after;
        stays = same_pc g.into t.after;
        runs = λ loaded number stack fresh. record {
          loaded = loaded;
          number = number;
          frame = record {
            function = T;
            found = ap (slice_get m.functions) same.0 ∙ wf.stands.found;
            inst = wf.stands.inst;
            there = wf.stands.there;
            here = wf.stands.here ∙ ap (λ n. 0 + place (context m n T) g.pc) (sym same.0);
            instance = wf.stands.instance;
            first = same.1 ∙ wf.stands.first;
            has = record {
              long = put.numbers.long;
              plain = put.numbers.plain;
              many = put.numbers.many;
              variables = put.numbers.variables;
              temporaries = put.numbers.temporaries;
              made = put.numbers.made;
            };
          };
          stack = stack_same m T (at_pc r.frame pc) _ p.below r.below refl put.linkage stack;
          frames = none;
          fresh = fresh;
        };
        worlds = put.worlds;
      }
