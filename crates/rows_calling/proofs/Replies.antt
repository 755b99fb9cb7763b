-- Replies to prints.
use Rattle.std.proofs.Common.{◌≡◌, ℕ, ℤ, Bool, true, zero, suc, pos, ◌+◌, ◌*◌, ◌/◌, ◌<◌, ◌-◌, List, [], ◌∷◌, ◌++◌, length, map, Option, Some, None, inl, inr, refl, sym, ap, ◌∙◌, subst, arith}
use Rattle.std.proofs.Common.{if◌then◌else◌}
use Rattle.std.specs.Prelude.{slice_get, slice_set, nat_eq}
use Rattle.std.proofs.lemmas.Bool.Decides.{eqb_tells}
use Rattle.styx_msg.specs.declared.message.Rmsg.{Rmsg}
use Rattle.process_model.specs.Process.{Went}
use Rattle.process_model.specs.Follows.{Only, MatchesReply}
use Rattle.process_ways.specs.Ways.{with_ways, Way}
use Rattle.system_model.specs.Values as system
use Rattle.system_model.specs.World as outside
use Rattle.system_model.specs.Prints.{Printing, Answers, Requests, NoReply, Writing, hear}
use Rattle.limbo_types.specs.Types as ty
use Rattle.limbo_types.specs.Types.{Ty}
use Rattle.limbo_layout.specs.Adts.{Has}
use Rattle.limbo_values.specs.declared.number.Kind.TheVariants as kind
use Rattle.limbo_values.specs.Numbers.{InRange}
use Rattle.limbo_typed.specs.Typed as typed
use Rattle.limbo_meaning.specs.Process as meaning
use Rattle.limbo_meaning.specs.Process.{Shared}
use Rattle.limbo_meaning.specs.Values.{Num}
use Rattle.core_code.specs.Code.{Instr, Print}
use Rattle.core_code.specs.Machine as code
use Rattle.core_code.specs.Slots as core
use Rattle.core_code.specs.Slots.{Holds}
use Rattle.core_typing.specs.Held as held
use Rattle.core_typing.specs.Held.{Held, Of}
use Rattle.dis_meaning.specs.Words.{Word, Plain, Refer, Address, InFrame, Access, Found, ◌>>=◌, word_at, number_in, fits}
use Rattle.dis_meaning.specs.Numbers.{number_at}
use Rattle.dis_meaning.specs.Process.{Frame, Process, with_words, with_frames}
use Rattle.dis_meaning.specs.Places.{Spot, Far, words_in, change, with_frame_words}
use Rattle.dis_memory.specs.Blocks.{World}
use Rattle.dis_memory.specs.Control as control
use Rattle.dis_memory.specs.Naming as machine
use Rattle.dis_memory.specs.Control.{with_outside}
use Rattle.dis_memory.specs.Places.{Memory, with_words_at, store}
use Rattle.dis_memory.specs.Process.{or_fault}
use Rattle.value_words.specs.Facts.{Facts}
use Rattle.value_words.specs.Stands.{a_number}
use Rattle.value_words.proofs.Bytes.{word_there}
use Rattle.value_frames.specs.Frames.{answer_place, spare_place, number_place, reference_place, frame_bytes, frame_references}
use Rattle.value_frames.specs.Types.{AreOf}
use Rattle.value_frames.specs.Standing.{SlotStands, a_value, WordsAre}
use Rattle.value_frames.specs.Slots.{ElseAsWas}
use Rattle.value_frames.specs.Later.{AreMadeBy}
use Rattle.value_frames.proofs.Slots.{slots_change, put_long}
use Rattle.value_frames.proofs.Later.{frames_later}
use Rattle.value_frames.proofs.Replacing.{kinds_stay}
use Rattle.value_moves.specs.Changing.{Changes}
use Rattle.value_moves.proofs.Changing.{low_or_high}
use Rattle.value_roots.specs.Accounts as accounts
use Rattle.value_roots.specs.Accounts.{Accounted, to_nothing, all_words}
use Rattle.value_code.specs.Objects.{of_function, size_at, blank_site}
use Rattle.number_effects.specs.Giving.{with_word, WordStored}
use Rattle.number_effects.proofs.Giving.{word_goes}
use Rattle.value_follows.specs.Stands.{types_of, place_of, Awaited, AllWait, Stands, Asking}
use Rattle.value_follows.specs.Sides.{sides, HoldTheSame}
use Rattle.value_follows.specs.Rows.{place, row_of, Base}
use Rattle.value_follows.proofs.Kept.{stands_keep}
use Rattle.value_follows.proofs.Putting.{word_same, NumberWord, number_word}
use Rattle.value_follows.proofs.Slots.{uses}
use Rattle.value_follows.proofs.Several.{names_as, moved_names}
use Rattle.value_follows.proofs.Waiting.{all_wait_later}
use Rattle.value_follows.proofs.Standing.{all_wait}
use Rattle.value_follows.specs.Stands.{IsBehindPrint}
use Rattle.rows_calling.specs.Rows.{RepliesGo}
use Rattle.rows_calling.proofs.Ints.{AnswersInt, hear_int}
use Rattle.rows_calling.proofs.Making.{older_stay}
use Rattle.rows_calling.proofs.Tidying.{AtLast, tidy_step, long_print}

alike : (a : ℕ) → nat_eq a a ≡ true
alike a = elim (eqb_tells a a) [ inl y ↦ y.0 | inr y ↦ absurd (y.1 refl) ]

put_there : {A : Type 0} (xs : List A) (s : ℕ) (y : A) → s < length xs → slice_get (slice_set xs s y) s ≡ Some y
put_there [] s y l = absurd (omega (arith, l))
put_there (x ∷ xs) zero y l = refl
put_there (x ∷ xs) (suc s) y l = put_there xs s y (omega (arith, l))

fits_plain : (w : Word) (z : ℤ) → ((r : Option ℕ) → w ≡ Refer r → ⊥) → fits w (Plain z) ≡ true
fits_plain (Plain y) z none = refl
fits_plain (Refer r) z none = absurd (none r refl)
fits_plain (Address at to) z none = refl

without_alone : (s : ℕ) → held.without s (s ∷ []) ≡ []
without_alone s = ap (λ (b : Bool). if b then [] else s ∷ []) (alike s)

module _ (m : typed.Module) (b : Base m) (k : Facts) (i : ℕ) (w : Shared) (x : World) (p : code.Process) (q : Process) (a : Asking m k i x p q)
    (behind : IsBehindPrint p) (hold : HoldTheSame m k i x p q) (worlds : (sides m).worlds k w x) where
  abbrev f : typed.Function
  f = a.is.function

  abbrev types : List Ty
  types = types_of m f

  abbrev into : ℕ
  into = p.frame.into

  abbrev n_at : ℕ
  n_at = number_place m.adts types into

  abbrev r_at : ℕ
  r_at = reference_place m.adts types into

  printed_there : slice_get (of_function m f).code behind.before ≡ Some (Print behind.pieces into behind.operands)
  printed_there = subst (λ c. slice_get c behind.before ≡ Some (Print behind.pieces into behind.operands)) a.is.code behind.there

  within : into < length p.frame.slots
  within = (uses m k i x (into ∷ []) p.frame q.frame a.is behind.before (Print behind.pieces into behind.operands) printed_there).0

  -- the world with something else outside
  module _ (o : outside.World) where
    abbrev y : World
    y = with_outside x o

    waits_then : (other : Frame) → other.serial ≡ q.frame.serial → word_at other.words (pos answer_place) ≡ word_at q.frame.words (pos answer_place)
        → AllWait m k i y Awaited p.frame.answer other p.below q.below
    waits_then other same e =
        all_wait m k i y Awaited p.frame.answer q.frame other p.below q.below same e
        (all_wait_later m k k i x y q.frame.serial (record { facts = λ n f e. e; makers = λ n j e. e; forms = λ n o e. e })
        (omega arith) (λ b free made form. (free, refl)) Awaited p.frame.answer q.frame p.below q.below (omega arith) a.waits)

    -- ---- they ask again

    module _ (k' : Writing) where
      abbrev asks_p : code.Process
      asks_p = record { number = p.number; frame = p.frame; below = p.below; printing = Some k' }

      abbrev asks_q : Process
      asks_q = control.asking q q.frame (record { writing = k'; place = InFrame q.frame.serial; at = pos n_at })

      again : Asking m k i y asks_p asks_q
      again = record {
        number = a.number;
        is = record {
          number = a.is.number;
          function = f;
          there = a.is.there;
          code = a.is.code;
          answer = a.is.answer;
          many = a.is.many;
          instance = a.is.instance;
          formed = a.is.formed;
          known = a.is.known;
          words = a.is.words;
          mine = a.is.mine;
          fresh = a.is.fresh;
        };
        goes = a.goes;
        waits = waits_then q.frame refl refl;
        pc = a.pc;
        behind = record {
          before = behind.before;
          pieces = behind.pieces;
          operands = behind.operands;
          next = behind.next;
          there = behind.there;
        };
        spare = a.spare;
        none_made = a.none_made;
        refers = a.refers;
        unnamed = a.unnamed;
        writing = k';
        printing = refl;
        printing_too = refl;
      }

    -- ---- the answer comes

    module _ (z : ℤ) (range : InRange kind.Int z) where
      number_old : NumberWord m.adts types (length p.frame.slots) q.frame.words a.is.words.laid a.is.words.kind into within
      number_old = number_word m.adts types (length p.frame.slots) q.frame.words a.is.words.laid a.is.words.kind into within

      abbrev others : List Word
      others = with_word q.frame.words n_at (Plain z)

      abbrev spot : Spot
      spot = Far (InFrame q.frame.serial) (pos n_at)

      stored : WordStored q.frame.words n_at (Plain z) × (store y q spot (Plain z) ≡ with_words_at y q spot others)
      stored =
          word_goes y q spot q.frame.words n_at number_old.old (Plain z)
          (ap (λ (b : Bool). if b then Found q.frame.words else words_in q.frame.serial (q.below ++ q.made)) (alike q.frame.serial)) refl
          (word_there q.frame.words n_at number_old.old (omega arith) number_old.there) (fits_plain number_old.old z number_old.no_refer)

      -- both processes then
      abbrev has_p : code.Process
      has_p = code.with_frames p (code.answered p.frame (Num z)) p.below

      abbrev has_q : Process
      has_q = with_frames q (with_words q.frame others) q.below []

      frames_then : with_frame_words q q.frame.serial others ≡ has_q
      frames_then =
          let c : change q.frame.serial others q.frame ≡ with_words q.frame others =
          ap (λ (b : Bool). if b then with_words q.frame others else q.frame) (alike q.frame.serial) in
          let d : map (change q.frame.serial others) q.below ≡ q.below =
          older_stay m k i x q.frame.serial others Awaited p.frame.answer q.frame p.below q.below (omega arith) a.waits in
          let e : map (change q.frame.serial others) q.made ≡ [] = ap (map (change q.frame.serial others)) a.none_made in
          ap (λ (h : Frame). with_frames q h (map (change q.frame.serial others) q.below) (map (change q.frame.serial others) q.made)) c
          ∙ (ap (λ (hs : List Frame). with_frames q (with_words q.frame others) hs (map (change q.frame.serial others) q.made)) d
          ∙ ap (λ (hs : List Frame). with_frames q (with_words q.frame others) q.below hs) e)

      heard_then : control.hears x q (InFrame q.frame.serial) (pos n_at) (Answers o (system.Num z)) ≡ Went y has_q
      heard_then =
          ap (λ (c : Access Memory). or_fault x q (c >>= λ m. Found (Went m.world (with_frames m.process m.process.frame m.process.below m.process.made))))
          stored.1
          ∙ ap (λ (r : Process). Went y (with_frames r r.frame r.below r.made)) frames_then

      changes : Changes q.frame.words others n_at 4
      changes = stored.0.changes

      ranged_same : (v : ℤ) → Plain z ≡ Plain v → InRange kind.Int v
      ranged_same v e = let same : z ≡ v = cc in subst (InRange kind.Int) same range

      else_as_was : ElseAsWas q.frame.words others n_at 8
      else_as_was = record {
        each = λ w out. elim (low_or_high (4 * w) n_at) [
          | inl low ↦ changes.words w (inl (omega (arith, low)))
          | inr high ↦ elim (low_or_high (4 * w) (n_at + 8)) [
            | inl within ↦ absurd (out (high, within))
            | inr past ↦ changes.words w (inr (omega (arith, past)))
          ]
        ];
      }

      sort : AreOf (frame_bytes m.adts types (length p.frame.slots)) (frame_references m.adts types (length p.frame.slots)) others
      sort =
          kinds_stay.all (frame_bytes m.adts types (length p.frame.slots)) (frame_references m.adts types (length p.frame.slots)) q.frame.words others
          a.is.words.kind changes.many changes.refer changes.referred (stored.0.ranged ranged_same a.is.words.kind.ranged)

      found : number_at kind.Int others (pos n_at) ≡ Found z
      found = ap (λ (c : Access Word). c >>= number_in) stored.0.there

      slot_then : SlotStands m.adts k x.heap q.frame.serial others n_at r_at (Of ty.Int []) (Holds (Num z)) []
      slot_then =
          a_value others n_at r_at ty.Int [] (Num z) (
            a_number n_at kind.Int z found range,
            (a.refers.0, word_same q.frame.words others r_at (changes.words (r_at / 4) (inr (omega arith))) ∙ a.refers.1, a.refers.2),
          )
          (λ a n e. absurd cc)

      abbrev Then : List ℕ → Type 0
      Then busy =
          (after : WordsAre m.adts k x.heap q.frame.serial busy types (held.put a.is.known into (Of ty.Int [])) p.frame.variables
          (core.put p.frame.slots into (Holds (Num z))) others)
          × AreMadeBy k i after.own

      words_then : Then []
      words_then =
          let are = a.is.words in
          let owned = (frames_later m.adts k x.heap q.frame.serial (into ∷ []) types a.is.known p.frame.variables p.frame.slots q.frame.words are).owned in
          let after = slots_change.slot m.adts k k x.heap x.heap q.frame.serial (into ∷ []) types a.is.known p.frame.variables p.frame.slots
          q.frame.words others into (Of ty.Int []) (Holds (Num z)) [] are
          (record { facts = λ n f e. e; makers = λ n j e. e; forms = λ n o e. e }) within else_as_was sort slot_then tt
          (λ u b ne h. (λ e. e, ((owned u b h).0, refl))) in
          subst Then (without_alone into) (
            after.after,
            λ u b h. elim (eqb_tells u into) [
              | inl y ↦ absurd (subst (λ o. Has o b) (ap after.after.own y.1 ∙ after.here) h)
              | inr n ↦ a.is.mine u b (subst (λ o. Has o b) (after.elsewhere u n.1) h)
            ],
          )

      stands_then : Stands m k i y [] Awaited has_p has_q
      stands_then = record {
        number = a.number;
        is = record {
          number = a.is.number;
          function = f;
          there = a.is.there;
          code = a.is.code;
          answer = a.is.answer;
          many = put_long p.frame.slots into (Holds (Num z)) ∙ a.is.many;
          instance = a.is.instance;
          formed = a.is.formed;
          known = held.put a.is.known into (Of ty.Int []);
          words = words_then.0;
          mine = words_then.1;
          fresh = a.is.fresh;
        };
        goes = a.goes;
        waits = waits_then has_q.frame refl (word_same q.frame.words others answer_place (changes.words 4 (inl (omega arith))));
      }

      -- ---- behind it

      abbrev size : ℕ
      size = (row_of m f behind.before (Print behind.pieces into behind.operands)).size

      abbrev Last : ℕ → typed.Function → Type 0
      Last n g = AtLast m b i has_p has_q behind.before behind.pieces into behind.operands (size - 1) z range n g

      at_last : Last a.is.number f
      at_last =
          let long = long_print (blank_site m f.of.answer (of_function m f) behind.before) behind.pieces into behind.operands in
          let at = subst (λ (pc : ℕ). suc q.frame.pc ≡ place_of m a.is.number f pc) behind.next a.pc in
          let e = ap (λ (o : Option Instr). size_at m f.of.answer (of_function m f) behind.before o) printed_there in
          record {
            code = printed_there;
            at = omega (arith, long, at, e);
            last = omega (arith, long);
            spare = word_same q.frame.words others (spare_place m.adts types) (changes.words (spare_place m.adts types / 4) (inl (omega arith))) ∙ a.spare;
            numbered = found;
          }

      names_same : (n : ℕ) → machine.names has_q n ≡ machine.names q n
      names_same n =
          ap (λ (fs : List Frame). machine.names (with_frames q (with_words q.frame others) q.below fs) n) (sym a.none_made)
          ∙ moved_names q q.frame.pc others
          (λ n. names_as n q.frame.words (n_at / 4) number_old.old (Plain z) number_old.there number_old.no_refer (λ r e. absurd cc)) n

      abbrev worlds_then : (sides m).worlds k (meaning.with_outside w o) y
      worlds_then = (worlds.0, refl)

      hold_then : HoldTheSame m k i y has_p has_q
      unfolding stands_then
      hold_then =
          b.holds_on_way k i (meaning.with_outside w o) y [] Awaited has_p has_q stands_then worlds_then
          (λ n h. let e = names_same n in hold.same.live n (hold.same.roots n (omega (arith, e, h))))
          (record {
            slots = λ s h. absurd h;
            spare = λ r e. subst (λ (o : Option ℕ). Accounted k i y.heap (code.process_names has_p) (Refer o)) (same_refer r (sym at_last.spare ∙ e)) to_nothing;
            made = accounts.none;
            answer = tt;
          })
          (λ s n h u. absurd h)
        where
          same_refer : (r : Option ℕ) → ◌≡◌ {A = Access Word} (Found (Refer None)) (Found (Refer r)) → None ≡ r
          same_refer r e = cc

      tidy_way : Way (sides m) (place m) 1 k i y has_p has_q
      unfolding stands_then
      tidy_way = (
        hold_then,
        λ now u v left h worlds'.
            let later = b.stands_later k now i y u [] Awaited has_p has_q stands_then left h in
            tidy_step m b i has_p has_q behind.before behind.pieces into behind.operands (size - 1) z range behind.next refl
            (put_there p.frame.slots into (Holds (Num z)) within) now v u later.0
            (subst (λ (n : ℕ). Last n later.0.is.function) (sym later.1.number) (subst (λ (g : typed.Function). Last a.is.number g) (sym later.1.function) at_last))
            (ap (λ (h : held.Slots). slice_get h into) later.1.known
            ∙ put_there a.is.known into (Of ty.Int []) (let e = a.is.words.as_many in let l = within in omega (arith, e, l))) h worlds',
      )

  -- what both do
  replies : (h : Printing) → AnswersInt h
      → MatchesReply (with_ways (sides m) (place m)) k i x (code.hears w p h) (control.hears x q (InFrame q.frame.serial) (pos n_at) h)
  replies (Answers o v) (z, same, range) =
      subst (λ (v : system.Value). MatchesReply (with_ways (sides m) (place m)) k i x (code.hears w p (Answers o v))
      (control.hears x q (InFrame q.frame.serial) (pos n_at) (Answers o v))) (sym same)
      (subst (λ e. MatchesReply (with_ways (sides m) (place m)) k i x (code.hears w p (Answers o (system.Num z))) e) (sym (heard_then o z range))
      (record {
        now = k;
        changes = (stands_keep m).changes_same (Only i) k x (with_outside x o) refl (omega arith);
        world = meaning.with_outside w o;
        after = code.with_frames p (code.answered p.frame (Num z)) p.below;
        does = refl;
        related = (1, tidy_way o z range);
        worlds = (worlds.0, refl);
      }))
  replies (Requests o r k') int = record {
    now = k;
    changes = (stands_keep m).changes_same (Only i) k x (with_outside x o) refl (omega arith);
    world = meaning.with_outside w o;
    after = record { number = p.number; frame = p.frame; below = p.below; printing = Some k' };
    does = refl;
    related = (again o k', hold);
    worlds = (worlds.0, refl);
  }
  replies NoReply int = tt

  pub replies_here : (reply : Rmsg) → MatchesReply (with_ways (sides m) (place m)) k i x ((sides m).program.answer reply w p) ((sides m).code.answer reply x q)
  replies_here reply =
      let source : (sides m).program.answer reply w p ≡ code.hears w p (hear reply w.outside a.writing) = ap (code.heard reply w p) a.printing in
      let machine_does : (sides m).code.answer reply x q ≡ control.hears x q (InFrame q.frame.serial) (pos n_at) (hear reply w.outside a.writing) =
      ap (control.heard reply x q) a.printing_too
      ∙ ap (λ (u : outside.World). control.hears x q (InFrame q.frame.serial) (pos n_at) (hear reply u a.writing)) worlds.1 in
      subst (λ e. MatchesReply (with_ways (sides m) (place m)) k i x e ((sides m).code.answer reply x q)) (sym source)
      (subst (λ e. MatchesReply (with_ways (sides m) (place m)) k i x (code.hears w p (hear reply w.outside a.writing)) e) (sym machine_does)
      (replies (hear reply w.outside a.writing) (hear_int reply w.outside a.writing)))

pub replies_go : RepliesGo
replies_go m b k i reply w x p q asking worlds = replies_here m b k i w x p q asking.0 asking.0.behind asking.1 worlds reply
