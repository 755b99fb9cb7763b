-- An answer that has a box: the record that waits for it is filled, and then carries its words for good.
use Rattle.std.proofs.Common.{◌≡◌, ℕ, suc, pos, ◌<◌, List, [], ◌∷◌, Option, Some, None, refl, sym, ap, ◌∙◌, subst, arith, true}
use Rattle.std.specs.Prelude.{slice_get}
use Rattle.process_model.specs.Process.{Went}
use Rattle.process_ways.specs.Ways.{Way}
use Rattle.heap_model.specs.Heap.{at, there}
use Rattle.heap_model.specs.Facts.{Fact, Refers, itself, slice, Covers, refers, chars, IsFree, Free}
use Rattle.heap_model.proofs.Growing.{grows_same}
use Rattle.limbo_layout.specs.Adts.{Has}
use Rattle.limbo_typed.specs.Typed as typed
use Rattle.limbo_meaning.specs.Process.{Shared}
use Rattle.limbo_meaning.specs.Values.{Value}
use Rattle.system_model.specs.Limits.{frames_limit}
use Rattle.core_code.specs.Code.{Return}
use Rattle.core_code.specs.Machine as code
use Rattle.core_typing.specs.Going.{all_of}
use Rattle.dis_isa.specs.declared.inst.Inst.{Inst}
use Rattle.dis_meaning.specs.Words.{Word, Refer, Address, InBlock, Access, Found, ◌>>=◌, word_at, or_wrong, dead_address}
use Rattle.dis_meaning.specs.Places.{Far}
use Rattle.dis_meaning.specs.Process.{Process}
use Rattle.dis_memory.specs.Blocks as blocks
use Rattle.dis_memory.specs.Blocks.{Block, World, Record, with_changed, reached}
use Rattle.dis_memory.specs.Places as places
use Rattle.dis_memory.specs.Places.{memory}
use Rattle.dis_memory.specs.Step.{obey}
use Rattle.value_words.specs.Facts.{Facts, Grows}
use Rattle.value_words.specs.Forms.{Form, OwnedBy}
use Rattle.value_words.specs.Stands.{Stands}
use Rattle.value_words.proofs.Later.{stands_later}
use Rattle.value_roots.specs.Accounts.{Accounted, AllAccounted, none, all_words, to_nothing, to_value}
use Rattle.value_frames.specs.Frames.{Nowhere, Boxed, form_of, answer_place, number_place, reference_place, room_for, box_bytes}
use Rattle.value_frames.specs.Types.{AreOf}
use Rattle.value_frames.specs.Standing.{IsOwn, a_value, ValueStands, WordsAre}
use Rattle.value_frames.specs.Later.{AreMadeBy}
use Rattle.value_frames.proofs.Later.{frames_later}
use Rattle.value_moves.specs.Operands.{behind}
use Rattle.value_moves.specs.Spots.{LeadsAndStores}
use Rattle.value_code.specs.Objects.{object_of, of_function, size_at}
use Rattle.value_code.specs.Code.{code_of}
use Rattle.number_effects.specs.Giving.{after}
use Rattle.number_effects.specs.Stepping.{on_next}
use Rattle.number_effects.proofs.Stepping.{steps_obey}
use Rattle.value_follows.specs.Stands.{types_of, Answer, Awaited, Filled, FillsSo, AnswerGoes, Waits, AllWait, waits_below}
use Rattle.value_follows.specs.Sides.{contents, sides, HoldTheSame}
use Rattle.value_follows.specs.Rows.{place, Base, RowStands, site_of}
use Rattle.value_follows.proofs.RootedValues.{has_at, each_accounted}
use Rattle.value_follows.proofs.Open.{open_there}
use Rattle.value_follows.proofs.Single.{Once}
use Rattle.value_follows.proofs.Several.{Next}
use Rattle.value_follows.proofs.Standing.{all_wait}
use Rattle.value_follows.proofs.Waiting.{all_wait_later}
use Rattle.rows_ending.proofs.Endings.{ret, given}
use Rattle.rows_answers.proofs.OnTheWay.{On, stands, on_later, reaches_first, further, goes_silently}
use Rattle.rows_answers.proofs.Names.{all_named}
use Rattle.rows_answers.proofs.Returning.{WaitsOn, waits_on, answer_of, goes_back}
use Rattle.rows_answers.proofs.Blocks.{with_other, filled_sets, other_is, other_worlds, other_changes, telling, learns, told_so, told_grows, told_worlds, told_changes}

-- ---- where the address of a record leads

module _ (x : World) (p : Process) (r b : ℕ) (words : List Word) (e : word_at p.frame.words (pos r) ≡ Found (Address (InBlock b) (pos 0)))
    (f : at x.heap b ≡ Some (Record words)) where
  pub address_leads : LeadsAndStores x p (behind r 0) words 0 (λ new. memory (with_changed x b (Record new)) p)
  address_leads = (
    record {
      place = Far (InBlock b) (pos 0);
      found = ap (λ (a : Access Word). a >>= λ w. places.behind w (pos 0)) e;
      among = ap (λ (o : Option Block). or_wrong dead_address o >>= reached) f;
      byte = refl;
    },
    λ new. ap (λ (o : Option Block). or_wrong dead_address o >>= (λ c. Found (with_changed x b (blocks.with_words new c))) >>= λ y. Found (memory y p)) f,
  )

-- ---- what is known of what words refer to stays known

pub covers_later : (k now : Facts) → Grows k now → (named : ℕ → Type 0) (d : ℕ) → Covers k named d → Covers now named d
covers_later k now grows named d (refers n h r) = refers n h (refers_on r)
  where
    refers_on : Refers k n d → Refers now n d
    refers_on (itself e) = itself (grows.facts d _ e)
    refers_on (slice start long e) = slice start long (grows.facts d _ e)
covers_later k now grows named d (chars text e) = chars text (grows.facts d _ e)

-- ---- the record that is to be the box

pub record AnswerBox (m : typed.Module) (k : Facts) (i : ℕ) (x : World) (a : Answer) (p : code.Process) (q : Process) (t : WaitsOn m k i x a p q) : Type 0 where
  pub box : ℕ
  pub inner : List Word
  pub own : IsOwn m.adts k x.heap t.frame.serial t.frame.words (reference_place m.adts (types_of m t.waits.is.function) t.above.into)
      (box_bytes m.adts p.frame.answer) (room_for m.adts p.frame.answer).references box inner
  pub address : word_at q.frame.words (pos answer_place) ≡ Found (Address (InBlock box) (pos 0))
  pub made : k.maker box ≡ Some i
  pub apart : (s : ℕ) → Has (t.waits.is.words.own s) box → ⊥
  pub fills : FillsSo a inner

module _ (m : typed.Module) (k : Facts) (i : ℕ) (x : World) (a : Answer) (p : code.Process) (q : Process) (form : form_of p.frame.answer ≡ Boxed)
    (t : WaitsOn m k i x a p q) where
  pub answer_box : AnswerBox m k i x a p q t
  answer_box =
      let goes = subst (λ o. AnswerGoes m k i x a o p.frame.answer t.frame (types_of m t.waits.is.function) t.above.into q.frame t.waits.is.words.own)
      form t.waits.answer in
      record { box = goes.0; inner = goes.1; own = goes.2; address = goes.3; made = goes.4; apart = goes.5; fills = goes.6 }

module _ (m : typed.Module) (b : Base m) (i : ℕ) (p : code.Process) (n : ℕ) (f : typed.Function) where
  -- A way begins where two were on their way, as long as the next instruction leads on whatever others did.
  pub way_goes : (a : Answer) (j : ℕ) (q : Process) (l : ℕ) (k : Facts) (x : World) → On m k i x a n f j p q → HoldTheSame m k i x p q
      → ((now : Facts) (w : Shared) (y : World) → Grows k now → On m now i y a n f j p q → HoldTheSame m now i y p q
      → (sides m).worlds now w y → Next m b i p l now w y q)
      → Way (sides m) (place m) (suc l) k i x p q
  way_goes a j q l k x on hold does =
      (hold, λ now y w left h worlds. does now w y left.0.grows (on_later m i p q b k now x y left h a n f j on) h worlds)

-- ---- it is filled

other_owner : (o : Option Form) (a c : ℕ) → a < c → o ≡ Some (OwnedBy a) → o ≡ Some (OwnedBy c) → ⊥
other_owner o a c l e g = let same : a ≡ c = cc in absurd (omega (arith, l, same))

-- What an instruction does that fills it: the words then stand for a value.
pub record Fills (m : typed.Module) (k : Facts) (i : ℕ) (x : World) (p : code.Process) (q : Process) (t : WaitsOn m k i x Awaited p q)
    (c : AnswerBox m k i x Awaited p q t) (inst : Inst) (answer : Value) : Type 0 where
  pub others : List Word
  pub kind : AreOf (box_bytes m.adts p.frame.answer) (room_for m.adts p.frame.answer).references others
  pub stands : Stands m.adts k others 0 p.frame.answer answer
  pub live : (d : ℕ) → Has others (Refer (Some d)) → there (at x.heap d) ≡ true
  pub covered : (d : ℕ) → Has others (Refer (Some d)) → Covers k (λ n. 0 < code.process_names p n) d
  pub obeys : obey frames_limit (object_of m) x q inst inst.op ≡ after x q (address_leads x q answer_place c.box c.inner c.address c.own.there).0.place others

module _ (m : typed.Module) (b : Base m) (i : ℕ) (p : code.Process) (n : ℕ) (f : typed.Function) (from : Option ℕ)
    (there_so : slice_get m.functions n ≡ Some f) (here : slice_get p.frame.code p.frame.pc ≡ Some (Return from))
    (in_code : slice_get (of_function m f).code p.frame.pc ≡ Some (Return from))
    (row : RowStands m n f p.frame.pc (Return from)) (some : form_of p.frame.answer ≡ Nowhere → ⊥) (form : form_of p.frame.answer ≡ Boxed) where
  abbrev pub answer : Value
  answer = answer_of m b i p n f from here row

  -- ---- it carries its words, and the frame that waits goes on

  module _ (j : ℕ) (q : Process) (k : Facts) (w : Shared) (x : World) (others : List Word) (on : On m k i x (Filled others) n f j p q)
      (hold : HoldTheSame m k i x p q) (worlds : (sides m).worlds k w x)
      (is : slice_get (code_of (site_of m n f p.frame.pc row.at) (Return from)) j ≡ Some ret)
      (kind : AreOf (box_bytes m.adts p.frame.answer) (room_for m.adts p.frame.answer).references others)
      (stands_so : Stands m.adts k others 0 p.frame.answer answer)
      (covered : (d : ℕ) → Has others (Refer (Some d)) → Covers k (λ n. 0 < code.process_names p n) d) where
    t : WaitsOn m k i x (Filled others) p q
    t = waits_on m k i x (Filled others) p q some on.waits

    c : AnswerBox m k i x (Filled others) p q t
    c = answer_box m k i x (Filled others) p q form t

    there_is : at x.heap c.box ≡ Some (Record others)
    there_is = c.own.there ∙ ap (λ ws. Some (Record ws)) c.fills

    unknown : k.fact c.box ≡ None
    unknown = open_there (contents m) k w.heap x.heap worlds.0 c.box (Record others) c.own.free there_is

    abbrev named : ℕ → Type 0
    named n = 0 < code.process_names p n

    abbrev told : Facts
    told = telling m i k w x c.box others worlds there_is unknown c.made named covered

    grows : Grows k told
    grows = told_grows m i k w x c.box others worlds there_is unknown c.made named covered

    free_still : (d : ℕ) → (d ≡ c.box → ⊥) → Free k d → Free told d
    free_still d ne free =
        subst (λ (o : Option (Fact Block)). IsFree o)
        (sym ((learns m i k w x c.box others worlds there_is unknown c.made named covered).apart d ne)) free

    kept : (s d : ℕ) → Has (t.waits.is.words.own s) d → Free told d
    kept s d h =
        free_still d (λ e. c.apart s (subst (λ (a : ℕ). Has (t.waits.is.words.own s) a) e h))
        ((frames_later m.adts k x.heap t.frame.serial (t.above.into ∷ []) (types_of m t.waits.is.function) t.waits.is.known t.above.variables
        t.above.slots t.frame.words t.waits.is.words).owned s d h).0

    rest_then : AllWait m told i x Awaited t.above.answer t.frame t.others t.frames
    rest_then =
        all_wait_later m k told i x x t.frame.serial grows (omega arith)
        (λ d free made other. (free_still d (λ e. other (ap k.form e ∙ c.own.formed)) free, refl)) Awaited t.above.answer t.frame t.others t.frames
        (omega arith) t.rest

    value_there : form_of p.frame.answer ≡ Boxed
        → ValueStands m.adts told t.frame.words (number_place m.adts (types_of m t.waits.is.function) t.above.into)
        (reference_place m.adts (types_of m t.waits.is.function) t.above.into) (form_of p.frame.answer) p.frame.answer answer
    value_there e =
        subst (λ o. ValueStands m.adts told t.frame.words (number_place m.adts (types_of m t.waits.is.function) t.above.into)
        (reference_place m.adts (types_of m t.waits.is.function) t.above.into) o p.frame.answer answer) (sym e) (
          c.box,
          others,
          c.own.word,
          record { carries = told_so m i k w x c.box others worlds there_is unknown c.made named covered; kind = kind },
          stands_later m.adts k told others grows 0 p.frame.answer answer stands_so,
        )

    pub box_returns : Once m b i p q k w x
    box_returns =
        goes_back m b i p n f from here row (Filled others) j q k w x on hold worlds is t told
        (told_changes m i k w x c.box others worlds there_is unknown c.made named covered)
        (told_worlds m i k w x c.box others worlds there_is unknown c.made named covered) grows kept
        (a_value t.frame.words (number_place m.adts (types_of m t.waits.is.function) t.above.into)
        (reference_place m.adts (types_of m t.waits.is.function) t.above.into) p.frame.answer (all_of m.adts p.frame.answer) answer
        (value_there form) (all_named m.adts p.frame.answer (given p.frame.slots from)))
        rest_then

  -- ---- the record is filled

  module _ (j : ℕ) (q : Process) (k : Facts) (w : Shared) (x : World) (on : On m k i x Awaited n f j p q)
      (hold : HoldTheSame m k i x p q) (worlds : (sides m).worlds k w x) where
    abbrev pub waiting : WaitsOn m k i x Awaited p q
    waiting = waits_on m k i x Awaited p q some on.waits

    abbrev pub record_there : AnswerBox m k i x Awaited p q waiting
    record_there = answer_box m k i x Awaited p q form waiting

    module _ (inst : Inst) (is_it : slice_get (code_of (site_of m n f p.frame.pc row.at) (Return from)) j ≡ Some inst)
        (is : slice_get (code_of (site_of m n f p.frame.pc row.at) (Return from)) (suc j) ≡ Some ret)
        (within : suc j < size_at m f.of.answer (of_function m f) p.frame.pc (Some (Return from)))
        (fills : Fills m k i x p q waiting record_there inst answer) where
      abbrev box : ℕ
      box = record_there.box

      abbrev named_there : ℕ → Type 0
      named_there a = 0 < code.process_names p a

      unknown_yet : k.fact box ≡ None
      unknown_yet =
          open_there (contents m) k w.heap x.heap worlds.0 box (Record record_there.inner) record_there.own.free record_there.own.there

      abbrev new_world : World
      new_world =
          with_other m i k w x box record_there.inner fills.others worlds record_there.own.there unknown_yet record_there.made fills.live named_there
          fills.covered

      abbrev process_then : Process
      process_then = on_next (memory new_world q)

      step_is : (sides m).code.step x q ≡ Went new_world process_then
      step_is =
          let lead = address_leads x q answer_place box record_there.inner record_there.address record_there.own.there in
          steps_obey.stores frames_limit (object_of m ∷ []) x q (object_of m) inst x lead.0.place fills.others (memory new_world q)
          (reaches_first m b i p n f (Return from) row Awaited j q k w x on hold worlds inst is_it) fills.obeys (lead.1 fills.others)

      apart_still : (d : ℕ) → (d ≡ box → ⊥) → at new_world.heap d ≡ at x.heap d
      apart_still d ne =
          (filled_sets m i k w x box record_there.inner fills.others worlds record_there.own.there unknown_yet record_there.made fills.live named_there
          fills.covered).apart d ne

      -- the running frame has other blocks
      own_words : (after : WordsAre m.adts k new_world.heap q.frame.serial [] (types_of m f) on.known p.frame.variables p.frame.slots q.frame.words)
          × (after.own ≡ on.words.own)
      own_words =
          let later = frames_later m.adts k x.heap q.frame.serial [] (types_of m f) on.known p.frame.variables p.frame.slots q.frame.words on.words in
          later.later k new_world.heap (grows_same k)
          (λ s d h.
          let owned = later.owned s d h in (
            owned.0,
            apart_still d (λ e.
                other_owner (k.form d) waiting.frame.serial q.frame.serial waiting.waits.older (ap k.form e ∙ record_there.own.formed) owned.2),
          ))

      -- so has the one that waits
      waiting_words : (after : WordsAre m.adts k new_world.heap waiting.frame.serial (waiting.above.into ∷ []) (types_of m waiting.waits.is.function)
          waiting.waits.is.known waiting.above.variables waiting.above.slots waiting.frame.words) × (after.own ≡ waiting.waits.is.words.own)
      waiting_words =
          let later = frames_later m.adts k x.heap waiting.frame.serial (waiting.above.into ∷ []) (types_of m waiting.waits.is.function)
          waiting.waits.is.known waiting.above.variables waiting.above.slots waiting.frame.words waiting.waits.is.words in
          later.later k new_world.heap (grows_same k)
          (λ s d h. ((later.owned s d h).0, apart_still d (λ e. record_there.apart s (subst (λ (a : ℕ). Has (waiting.waits.is.words.own s) a) e h))))

      answer_goes : (own : ℕ → List ℕ) → own ≡ waiting.waits.is.words.own → form_of p.frame.answer ≡ Boxed
          → AnswerGoes m k i new_world (Filled fills.others) (form_of p.frame.answer) p.frame.answer waiting.frame (types_of m waiting.waits.is.function)
          waiting.above.into q.frame own
      answer_goes own same e =
          subst (λ o. AnswerGoes m k i new_world (Filled fills.others) o p.frame.answer waiting.frame (types_of m waiting.waits.is.function)
          waiting.above.into q.frame own) (sym e) (
            box,
            fills.others,
            record {
              word = record_there.own.word;
              there = other_is m i k w x box record_there.inner fills.others worlds record_there.own.there unknown_yet record_there.made fills.live
                  named_there fills.covered;
              free = record_there.own.free;
              formed = record_there.own.formed;
              kind = fills.kind;
            },
            record_there.address,
            record_there.made,
            λ s h. record_there.apart s (subst (λ (o : ℕ → List ℕ). Has (o s) box) same h),
            refl,
          )

      waits_then : Waits m k i new_world (Filled fills.others) waiting.above waiting.frame p.frame.answer q.frame
      waits_then =
          let was = waiting.waits in
          let now = waiting_words in
          record {
            is = record {
              number = was.is.number;
              function = was.is.function;
              there = was.is.there;
              code = was.is.code;
              answer = was.is.answer;
              many = was.is.many;
              instance = was.is.instance;
              formed = was.is.formed;
              known = was.is.known;
              words = now.0;
              mine = subst (λ (own : ℕ → List ℕ). AreMadeBy k i own) (sym now.1) was.is.mine;
              fresh = was.is.fresh;
            };
            goes = was.goes;
            pc = was.pc;
            spare = was.spare;
            answer = answer_goes now.0.own now.1 form;
            older = was.older;
            unnamed = was.unnamed;
          }

      all_then : AllWait m k i new_world (Filled fills.others) p.frame.answer process_then.frame p.below process_then.below
      all_then =
          let rest = all_wait_later m k k i x new_world waiting.frame.serial (grows_same k) (omega arith)
          (λ d free made other. (free, apart_still d (λ e. other (ap k.form e ∙ record_there.own.formed)))) Awaited waiting.above.answer waiting.frame
          waiting.others waiting.frames (omega arith) waiting.rest in
          subst (λ gs. AllWait m k i new_world (Filled fills.others) p.frame.answer process_then.frame gs q.below) (sym waiting.below)
          (subst (λ fs. AllWait m k i new_world (Filled fills.others) p.frame.answer process_then.frame (waiting.above ∷ waiting.others) fs)
          (sym waiting.beneath)
          (all_wait m k i new_world (Filled fills.others) p.frame.answer q.frame process_then.frame (waiting.above ∷ waiting.others)
          (waiting.frame ∷ waiting.frames) refl refl
          (waits_below (Filled fills.others) p.frame.answer q.frame waiting.above waiting.frame waiting.others waiting.frames waits_then rest)))

      on_then : On m k i new_world (Filled fills.others) n f (suc j) p process_then
      on_then = record {
        process = on.process;
        there = on.there;
        code = on.code;
        answer = on.answer;
        many = on.many;
        instance = on.instance;
        formed = on.formed;
        known = on.known;
        words = own_words.0;
        mine = subst (λ (own : ℕ → List ℕ). AreMadeBy k i own) (sym own_words.1) on.mine;
        fresh = on.fresh;
        goes = on.goes;
        waits = all_then;
        pc = (let e = on.pc in omega (arith, e));
        spare = on.spare;
        none_made = on.none_made;
      }

      worlds_then : (sides m).worlds k w new_world
      worlds_then =
          other_worlds m i k w x box record_there.inner fills.others worlds record_there.own.there unknown_yet record_there.made fills.live named_there
          fills.covered

      hold_then : HoldTheSame m k i new_world p process_then
      hold_then =
          b.holds_on_way k i w new_world [] (Filled fills.others) p process_then
          (stands m k i new_world (Filled fills.others) n f (suc j) p process_then on_then) worlds_then
          (b.there_again x new_world q process_then step_is worlds.0.closed (λ a h. hold.same.live a (hold.same.roots a h)))
          (record {
            slots = λ s h. absurd h;
            spare = λ o e. subst (λ u. Accounted k i new_world.heap (code.process_names p) (Refer u)) (same_reference None o (sym on.spare ∙ e)) to_nothing;
            made = subst (λ fs. AllAccounted k i new_world.heap (code.process_names p) (all_words fs)) (sym on.none_made) none;
            answer = each_accounted k i new_world.heap (code.process_names p) fills.others
                (λ s d e. to_value d (fills.covered d (has_at fills.others s (Refer (Some d)) e)));
          })
          (λ s a h. absurd h)
        where
          same_reference : (u o : Option ℕ) → Found (Refer u) ≡ Found (Refer o) → u ≡ o
          same_reference u o e = cc

      pub fills_then : Next m b i p 1 k w x q
      fills_then =
          let e = on.pc in
          goes_silently m b i p n f (Return from) row 1 k k w x new_world q process_then step_is
          (other_changes m i k w x box record_there.inner fills.others worlds record_there.own.there unknown_yet record_there.made fills.live named_there
          fills.covered) worlds_then
          (further m b i p n f (Return from) row there_so in_code refl j (suc j) q process_then (omega arith) within e (omega (arith, e)))
          (way_goes m b i p n f (Filled fills.others) (suc j) process_then 0 k new_world on_then hold_then
          (λ now v y grows o h after.
          box_returns (suc j) process_then now v y fills.others o h after is fills.kind
          (stands_later m.adts k now fills.others grows 0 p.frame.answer answer fills.stands)
          (λ d h. covers_later k now grows named_there d (fills.covered d h))))
