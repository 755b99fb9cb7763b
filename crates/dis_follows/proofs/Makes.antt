-- A frame is made, and its address is kept.
use Rattle.std.proofs.Common.{◌≡◌, ℕ, suc, ◌+◌, ◌≤◌, ℤ, pos, ◌%◌, ◌/◌, ◌*◌, inl, inr, List, [], ◌∷◌, ◌++◌, Some, None, refl, ap, ◌∙◌, arith}
use Rattle.std.specs.Prelude.{◌⊎◌, slice_get}
use Rattle.process_model.specs.Process.{Went}
use Rattle.dis_file.specs.declared.types.TypeDesc.{TypeDesc}
use Rattle.limbo_values.specs.declared.number.Kind.{Kind}
use Rattle.limbo_values.specs.declared.number.Kind.TheVariants.{Int}
use Rattle.system_model.specs.Limits.{frames_limit}
use Rattle.typed_meaning.specs.World as program
use Rattle.slot_code.specs.Code.{Function, Module}
use Rattle.slot_code.specs.Layout.{number_size, end_of}
use Rattle.slot_code.specs.Machine as machine
use Rattle.dis_meaning.specs.Words.{Word, Address, InFrame, Found, ◌>>=◌, type_check, or_wrong, number_in, blank}
use Rattle.dis_meaning.specs.World.{World}
use Rattle.dis_meaning.specs.Numbers.{number_at}
use Rattle.dis_meaning.specs.Process.{Frame, Process, with_words, with_frames}
use Rattle.dis_meaning.specs.Places.{Own, Memory, store}
use Rattle.dis_meaning.specs.Step as dis_step
use Rattle.dis_meaning.specs.Step.{next, framed, with_frame_made}
use Rattle.dis_objects.specs.Frames.{Callee, Room, room_of, made_at, whole, linkage_bytes, variable_place, temporary_place, most_bytes}
use Rattle.dis_objects.specs.Frames.{all_bytes}
use Rattle.dis_objects.specs.Code.{Context, place, framed as framed_code}
use Rattle.dis_objects.specs.Objects.{context, object_of}
use Rattle.dis_objects.specs.Proper.{IsProper}
use Rattle.dis_follows.specs.Stands.{Known, HasNumbers, Running, Making, WorldStands}
use Rattle.dis_follows.proofs.Stores.{Apart}
use Rattle.dis_follows.proofs.Written.{Stored, store_word_over, word_there, holds_on}
use Rattle.dis_follows.proofs.Blocks.{all_same}
use Rattle.dis_follows.proofs.Rooms.{whole_least, variable_last, temporary_outside}
use Rattle.dis_follows.proofs.Places.{end_least}
use Rattle.dis_follows.proofs.Runs.{step_is, with_frame, blocks_fit}
use Rattle.dis_follows.proofs.Linkage.{get_some, number_of_plain}
use Rattle.dis_follows.proofs.Begins.{unmarked, word_is}
use Rattle.dis_follows.proofs.Advances.{stack_same}
use Rattle.dis_follows.proofs.Rows as rows

-- ---- the word for the address

module _ (m : Module) (f : Function) (cs : List Callee) (g : machine.Frame) (words : List Word) (h : HasNumbers m f cs g words)
    (fits : all_bytes m.functions cs ≤ most_bytes m.functions [] f.code) where
  abbrev R : Room
  R = room_of m.functions f

  made_aligned : R.made % 4 ≡ 0
  made_aligned = omega arith

  made_behind : whole (end_of linkage_bytes f.variables) ≤ R.made
  made_behind = omega arith

  made_within : R.made + 4 ≤ R.size
  made_within = omega arith

  pub made_there : (z : ℤ) × (number_at Int words (pos R.made) ≡ Found z)
  made_there =
      let a = made_aligned in
      let b = made_behind in
      let c = made_within in
      let long = h.long in
      let s = get_some words (R.made / 4) (omega (arith, a, c, long)) in
      let plain = h.plain (R.made / 4) s.0 s.1 (unmarked f.variables (R.made / 4) (omega (arith, a, b))) in
      let n = number_of_plain m f cs g words h s.0 plain in (
        n.0,
        ap (λ q. (q >>= λ k. or_wrong type_check (slice_get words k)) >>= number_in) (word_is R.made a)
            ∙ ap (λ o. or_wrong type_check o >>= number_in) s.1 ∙ n.1,
      )

  pub made_written : (z : ℤ) (t : Stored Int words R.made z) → HasNumbers m f cs g t.after
  made_written z t = record {
    long = ap (λ n. 4 * n) t.words_stay.long ∙ h.long;
    plain = t.still _ h.plain;
    many = h.many;
    variables = λ y j e. holds_on j words t.after (variable_place f y) _
        (t.others j (variable_place f y) (inr (let b = made_behind in
        omega (arith, b, variable_last f y j e, whole_least (end_of linkage_bytes f.variables)))))
        (h.variables y j e);
    temporaries = λ j n l. holds_on j words t.after _ _ (t.others j _ (apart j n (temporary_outside m.functions f j n l)))
        (h.temporaries j n l);
    made = all_same m words t.after R cs g.made (λ j bt a b. t.others j bt (inl (omega (arith, a)))) h.made;
  }
    where
      apart : (j : Kind) (n : ℕ)
          → (temporary_place R j n + number_size j ≤ R.made) ⊎ (R.arguments + most_bytes m.functions [] f.code ≤ temporary_place R j n)
          → Apart Int R.made j (temporary_place R j n)
      apart j n (inl l) = inr (omega (arith, l))
      apart j n (inr l) = inl (omega (arith, l))

-- ---- the step

module _ (m : Module) (proper : IsProper m) (k : Known) (w : program.World) (x : World) (ws : WorldStands m k w x)
    (p : machine.Process) (r : Process) (h : Running m k p r 0 []) where
  abbrev F : Function
  F = h.frame.function

  abbrev C : Context
  C = context m p.frame.function F

  abbrev CS : List Callee
  CS = made_at F.code p.frame.pc

  abbrev FR : Room
  FR = room_of m.functions F

  -- The world with one frame more.
  pub more_stands : WorldStands m (with_frame k) w (with_frame_made x)
  more_stands = record {
    outside = ws.outside;
    frames = ap suc ws.frames;
    some = ws.some;
    words = ws.words;
    texts = ws.texts;
    more = ws.more;
    blocks = ws.blocks;
    opened = ws.opened;
    has = record {
      path = ws.has.path;
      sys = ws.has.sys;
      module_word = ws.has.module_word;
      loaded = ws.has.loaded;
      many = ws.has.many;
      variables = ws.has.variables;
      constants = ws.has.constants;
      zeros = ws.has.zeros;
    };
  }

  -- The frame that is made of a type.
  abbrev pub new_one : TypeDesc → Frame
  new_one desc = record { serial = x.frames; instance = r.frame.instance; pc = 0; words = blank desc }

  abbrev pub with_one : (words : List Word) → (pc : ℕ) → List Frame → Process
  with_one words pc made = record {
    number = r.number;
    frame = record { serial = r.frame.serial; instance = r.frame.instance; pc = pc; words = words };
    below = r.below;
    made = made;
    printing = None;
  }

  pub record Makes (desc : TypeDesc) : Type 0 where
    pub words : List Word
    pub steps : dis_step.step frames_limit (object_of m ∷ []) x r
        ≡ Went (with_frame_made x) (with_one words (1 + place C p.frame.pc) (new_one desc ∷ []))
    pub making : Making m (with_frame k) p (with_one words (1 + place C p.frame.pc) (new_one desc ∷ [])) 1 (new_one desc)
    pub same : making.running.frame.inst ≡ h.frame.inst
    pub function : making.running.frame.function ≡ F

  pub makes : (n : ℕ) (desc : TypeDesc) → slice_get (object_of m).types n ≡ Some desc
      → slice_get (object_of m).insts (place C p.frame.pc) ≡ Some (framed_code C (pos n)) → Makes desc
  makes n desc type code =
      let fit = blocks_fit m proper k w x ws p r 0 [] h in
      let old = made_there m F CS p.frame r.frame.words h.frame.has fit in
      let new = Address (InFrame x.frames) (pos 0) in
      let s = store_word_over r.frame.words FR.made old.0 new (pos 0) old.1 tt refl in
      let after = s.stored.after in
      let stores : store x r (Own (pos FR.made)) new ≡ Found (in_frame after) = ap (λ a. a >>= λ ws. Found (in_frame ws)) s.is in
      let there = rows.at_row m proper k w x ws p r 0 h (framed_code C (pos n)) (place C p.frame.pc) (omega arith) code in
      let stepped : suc r.frame.pc ≡ 1 + place C p.frame.pc = omega (arith, h.frame.here) in
      let one : r.made ++ new_one desc ∷ [] ≡ new_one desc ∷ [] = ap (λ fs. fs ++ new_one desc ∷ []) h.frames in
      let first = whole_least (end_of linkage_bytes F.variables) in
      let first' = end_least linkage_bytes F.variables in
      let linkage : slice_get after 4 ≡ slice_get r.frame.words 4 = s.stored.words_stay.others 4 (inl (omega (arith, first, first'))) in
      record {
        words = after;
        steps = step_is m k w x r (framed_code C (pos n)) (next (framed (in_frame after) (blank desc))) ws h.frame.instance there
            (ap (λ o. or_wrong type_check o >>= λ desc. store x r (Own (pos FR.made)) new >>= λ m. Found (next (framed m (blank desc))))
            type
            ∙ ap (λ a. a >>= λ m. Found (next (framed m (blank desc)))) stores)
            ∙ ap (λ pc. Went (with_frame_made x) (with_one after pc (r.made ++ new_one desc ∷ []))) stepped
            ∙ ap (λ fs. Went (with_frame_made x) (with_one after (1 + place C p.frame.pc) fs)) one;
        making = record {
          running = record {
            loaded = h.loaded;
            number = h.number;
            frame = record {
              function = F;
              found = h.frame.found;
              inst = h.frame.inst;
              there = h.frame.there;
              here = refl;
              instance = h.frame.instance;
              first = h.frame.first;
              has = made_written m F CS p.frame r.frame.words h.frame.has fit (pos 0) s.stored;
            };
            stack = stack_same m F r.frame _ p.below r.below refl linkage h.stack;
            frames = refl;
            fresh = let l = h.fresh in omega (arith, l);
          };
          made = record {
            later = let l = h.fresh in let q = ws.frames in omega (arith, l, q);
            given = let q = ws.frames in omega (arith, q);
            instance = h.frame.instance;
          };
          address = word_there r.frame.words after FR.made new s.is;
        };
        same = refl;
        function = refl;
      }
    where
      in_frame : List Word → Memory
      in_frame words = record { world = x; process = with_frames r (with_words r.frame words) r.below r.made }
