-- The call of print: the text of the frame is printed on both sides, and the answer is there, or waited for.
use Rattle.std.proofs.Common.{◌≡◌, ℕ, ℤ, Bool, suc, pos, ◌<◌, List, [], ◌∷◌, ◌++◌, length, map, Option, Some, refl, sym, ap, ◌∙◌, subst, arith}
use Rattle.std.proofs.Common.{if◌then◌else◌}
use Rattle.std.specs.Prelude.{slice_get, ◌+ℤ◌}
use Rattle.std.proofs.lemmas.Int.{ints}
use Rattle.process_model.specs.Process.{Went}
use Rattle.process_model.specs.Follows.{Only}
use Rattle.process_model.proofs.Quiet.{quiets_none}
use Rattle.process_ways.specs.Ways.{Way, Does}
use Rattle.process_ways.proofs.On.{stepped}
use Rattle.system_model.specs.Values as system
use Rattle.system_model.specs.World as outside
use Rattle.system_model.specs.Prints.{Printing, Answers, Requests, Writing, Request, print}
use Rattle.system_model.specs.Limits.{frames_limit}
use Rattle.heap_model.specs.Heap.{at}
use Rattle.heap_model.specs.Facts.{Carrier}
use Rattle.heap_model.specs.Worlds.{WorldsAlike}
use Rattle.limbo_types.specs.Types as ty
use Rattle.limbo_values.specs.declared.number.Kind.TheVariants as kind
use Rattle.limbo_values.specs.Numbers.{InRange}
use Rattle.limbo_typed.specs.Typed as typed
use Rattle.limbo_typed.specs.declared.print.Piece.{Piece}
use Rattle.limbo_meaning.specs.Formats as source
use Rattle.limbo_meaning.specs.Values.{Chars, Num}
use Rattle.limbo_meaning.specs.Process as meaning
use Rattle.limbo_meaning.specs.Process.{Shared}
use Rattle.core_code.specs.Code.{Instr, Print}
use Rattle.core_code.specs.Machine as code
use Rattle.core_code.specs.Slots as core
use Rattle.core_code.specs.Slots.{slot_names}
use Rattle.core_typing.specs.Held as held
use Rattle.core_typing.specs.Held.{Of}
use Rattle.dis_isa.specs.declared.inst.Inst.{Inst}
use Rattle.dis_isa.specs.declared.inst.Middle.TheVariants as middle
use Rattle.dis_isa.specs.declared.op.Op.TheVariants as op
use Rattle.dis_meaning.specs.Counts.{in_frames}
use Rattle.dis_meaning.specs.Words.{Word, Plain, Refer, Address, InFrame, Access, Found, ◌>>=◌, dead_address, or_wrong, word_at, reference}
use Rattle.dis_meaning.specs.Process.{Frame, Process, at_pc, with_words, with_frames}
use Rattle.dis_meaning.specs.Places.{Spot, Far, words_in, all_frames, change, with_frame_words, place_in}
use Rattle.dis_meaning.specs.Step.{made_frame, without, place_of as place_of_spot}
use Rattle.dis_memory.specs.Blocks.{Block, World, block}
use Rattle.dis_memory.specs.Control as control
use Rattle.dis_memory.specs.Control.{with_outside, frame_at, loaded_module, function_of, sys_call, answer_spot, outside_of}
use Rattle.dis_memory.specs.Formats as formats
use Rattle.dis_memory.specs.Formats.{fitting}
use Rattle.dis_memory.specs.Kinds.{text_at}
use Rattle.dis_memory.specs.Operands.{middle_immediate}
use Rattle.dis_memory.specs.Places.{Memory, store, with_words_at, source_word, source_reference, behind as behind_word}
use Rattle.dis_memory.specs.Process.{next, or_fault}
use Rattle.dis_memory.specs.Step.{obey}
use Rattle.value_words.specs.Facts.{Facts, Grows, IsText}
use Rattle.value_words.proofs.Bytes.{word_there}
use Rattle.value_frames.specs.Frames.{linkage_bytes, answer_place, made_place, number_place, reference_place}
use Rattle.value_frames.specs.Standing.{WordsAre, carrier_left}
use Rattle.value_frames.specs.Later.{AreMadeBy}
use Rattle.value_moves.specs.Operands.{inst, own}
use Rattle.value_moves.proofs.Leading.{spots_lead}
use Rattle.value_moves.proofs.Obeying.{on}
use Rattle.value_roots.proofs.Words.{has_counts}
use Rattle.value_code.specs.Objects.{object_of, of_function, size_at}
use Rattle.value_code.specs.Code.{format_text}
use Rattle.number_effects.specs.Giving.{with_word}
use Rattle.number_effects.specs.Stepping.{Reaches}
use Rattle.number_effects.proofs.Giving.{word_goes}
use Rattle.number_effects.proofs.Reading.{operands_are_read}
use Rattle.number_effects.proofs.Stepping.{steps_obey}
use Rattle.value_follows.specs.Stands.{types_of, Awaited, AllWait, Asking}
use Rattle.value_follows.specs.Sides.{of_values, sides, program, HoldTheSame}
use Rattle.value_follows.specs.Rooted.{IsAmong}
use Rattle.value_follows.specs.Rows.{place, Base, AreThere}
use Rattle.value_follows.proofs.Putting.{NumberWord, number_word}
use Rattle.value_follows.proofs.RootedProcesses.{stands_rooted}
use Rattle.value_follows.proofs.RootedValues.{word_has}
use Rattle.value_follows.proofs.Several.{Next}
use Rattle.value_follows.proofs.Standing.{all_wait, goes_behind}
use Rattle.value_follows.proofs.Waiting.{all_wait_later}
use Rattle.rows_calling.proofs.Ints.{IsInt, print_int}
use Rattle.rows_calling.proofs.OnTheWay.{On, row_code}
use Rattle.rows_calling.proofs.Making.{Made, made_words, made_found, none_left, older_stay}
use Rattle.rows_printing.proofs.Answered.{alike, fits_plain, tidy_way}
use Rattle.rows_printing.proofs.Filling.{HasFormat}
use Rattle.rows_printing.proofs.Loading.{text_reads}
use Rattle.rows_printing.proofs.Way.{sys, HasSys, size, sys_there}

plus_nothing : (n : ℕ) → pos n +ℤ pos 0 ≡ pos n
plus_nothing n = omega (arith, ints)

module _ (m : typed.Module) (b : Base m) (i : ℕ) (p : code.Process) (n : ℕ) (f : typed.Function) (ps : List Piece) (into : ℕ) (o : Option ℕ)
    (here : slice_get p.frame.code p.frame.pc ≡ Some (Print ps into o))
    (none : (s : ℕ) → slot_names (core.slot p.frame.slots into) s ≡ 0) where
  abbrev r_at : ℕ
  r_at = reference_place m.adts (types_of m f) into

  abbrev n_at : ℕ
  n_at = number_place m.adts (types_of m f) into

  -- the slots, once the operands are a whole value
  abbrev pub slots_then : core.Slots
  slots_then = code.together (Chars [] ∷ []) p.frame.slots o

  -- The operands' slot stands for that value, and more may be known.
  pub record Gathered (k : Facts) (w : Shared) (x : World) (q : Process) (known : held.Slots) : Type 0 where
    pub now : Facts
    pub grows : Grows k now
    pub changes : (sides m).changes (Only i) k now x x
    pub after : (sides m).worlds now w x
    pub words : WordsAre m.adts now x.heap q.frame.serial (into ∷ []) (types_of m f) (held.together known o) p.frame.variables slots_then q.frame.words
    pub mine : AreMadeBy now i words.own
    pub waits : AllWait m now i x Awaited p.frame.answer q.frame p.below q.below
    pub long : length slots_then ≡ length p.frame.slots
    pub unnamed : (s : ℕ) → slot_names (core.slot slots_then into) s ≡ 0

  -- what is printed
  abbrev pub text : List ℕ
  text = source.formatted ps (code.operands p.frame.slots o)

  abbrev pub calling : Inst
  calling = inst op.Mcall (own made_place) (middle.Imm (pos 16)) (own r_at)

  module _ (k : Facts) (w : Shared) (x : World) (j : ℕ) (q : Process) (c : Frame) (on_way : On m k i x (into ∷ []) n f j p q) (s : HasSys k r_at q)
      (has : Made q c) (hold : HoldTheSame m k i x p q) (worlds : (sides m).worlds k w x) (g : Gathered k w x q on_way.known)
      (last : suc (suc j) ≡ size m b i p n f ps into o here none) (few : into < length p.frame.slots) where
    abbrev frame_then : code.Frame
    frame_then = (code.waiting (code.with_operands (Chars [] ∷ []) p o).frame into)

    abbrev back : Process
    back = with_frames q q.frame q.below (without c.serial q.made)

    none_made : without c.serial q.made ≡ []
    none_made = none_left m k i x (into ∷ []) n f j p q on_way c has

    row_is : slice_get (of_function m f).code p.frame.pc ≡ Some (Print ps into o)
    row_is = row_code m k i x (into ∷ []) n f j p q on_way (Print ps into o) here

    -- ---- they ask

    module _ (u : outside.World) (writing : Writing) where
      abbrev y : World
      y = with_outside x u

      abbrev asks_p : code.Process
      asks_p = record { number = p.number; frame = frame_then; below = p.below; printing = Some writing }

      abbrev asks_q : Process
      asks_q = control.asking back (at_pc q.frame (suc q.frame.pc)) (record { writing = writing; place = InFrame q.frame.serial; at = pos n_at })

      abbrev asking : Asking m g.now i y asks_p asks_q
      asking =
          let at = on_way.pc in
          let e = ap (λ (o : Option Instr). size_at m f.of.answer (of_function m f) p.frame.pc o) row_is in
          let long = g.long in
          record {
            number = on_way.process;
            is = record {
              number = n;
              function = f;
              there = on_way.there;
              code = on_way.code;
              answer = on_way.answer;
              many = long ∙ on_way.many;
              instance = g.grows.facts q.frame.instance _ on_way.instance;
              formed = g.grows.forms q.frame.instance _ on_way.formed;
              known = held.together on_way.known o;
              words = g.words;
              mine = g.mine;
              fresh = on_way.fresh;
            };
            goes = goes_behind m f p.frame.pc on_way.known (Print ps into o) on_way.goes row_is 0 (suc p.frame.pc)
                (held.put (held.together on_way.known o) into (Of ty.Int [])) (omega arith) refl;
            waits = all_wait m g.now i y Awaited p.frame.answer q.frame (at_pc q.frame (suc q.frame.pc)) p.below q.below refl refl
                (all_wait_later m g.now g.now i x y q.frame.serial (record { facts = λ n f e. e; makers = λ n j e. e; forms = λ n o e. e })
                (omega arith) (λ b free made form. (free, refl)) Awaited p.frame.answer q.frame p.below q.below (omega arith) g.waits);
            pc = omega (arith, at, e, last);
            behind = record { before = p.frame.pc; pieces = ps; operands = o; next = refl; there = here };
            spare = on_way.spare;
            none_made = none_made;
            refers = (Some s.box, s.word, carrier_left s.box sys (g.grows.facts s.box (Carrier sys) s.carries) (λ q u. absurd (omega (arith, u))));
            unnamed = g.unnamed;
            writing = writing;
            printing = refl;
            printing_too = refl;
          }

      live : AreThere m y asks_q
      live c h =
          let e = ap (in_frames c) none_made in
          hold.same.live c (hold.same.roots c (omega (arith, h, e)))

      among : IsAmong m g.now i y w.heap asks_q
      among = record { alike = alike_then; live = live }
        where
          alike_then : WorldsAlike (of_values m) g.now w.heap y.heap
          alike_then = record {
            unmade = g.after.0.unmade;
            unnamed = g.after.0.unnamed;
            there = λ n v e. let h = g.after.0.there n v e in (h.0, h.1, h.2, h.3, h.4.0);
            here = g.after.0.here;
            texts = g.after.0.texts;
            parts = g.after.0.parts;
            carriers = g.after.0.carriers;
            frees = g.after.0.frees;
            bares = g.after.0.bares;
            closed = g.after.0.closed;
          }

      both_hold : HoldTheSame m g.now i y asks_p asks_q
      both_hold = (stands_rooted m).asking_holds g.now i w.heap y asks_p asks_q asking among

    -- ---- what both do with a text

    abbrev spot : Spot
    spot = Far (InFrame q.frame.serial) (pos n_at)

    abbrev Machine : Printing → Type 0
    Machine h = (sides m).code.step x q ≡ or_fault x q (control.prints x back (InFrame q.frame.serial) (pos n_at) h)

    abbrev Source : Printing → Type 0
    Source h = (sides m).program.step w p ≡ code.prints w p frame_then h

    changes_then : (u : outside.World) → (sides m).changes (Only i) k g.now x (with_outside x u)
    changes_then u = (g.changes.0, omega arith)

    -- the answer is there at once
    module _ (u : outside.World) (z : ℤ) (range : InRange kind.Int z) where
      old : NumberWord m.adts (types_of m f) (length p.frame.slots) q.frame.words on_way.words.laid on_way.words.kind into few
      old = number_word m.adts (types_of m f) (length p.frame.slots) q.frame.words on_way.words.laid on_way.words.kind into few

      abbrev others : List Word
      others = with_word q.frame.words n_at (Plain z)

      abbrev then_q : Process
      then_q = with_frames q (at_pc (with_words q.frame others) (suc q.frame.pc)) q.below []

      stored : store (with_outside x u) back spot (Plain z) ≡ with_words_at (with_outside x u) back spot others
      stored =
          (word_goes (with_outside x u) back spot q.frame.words n_at old.old (Plain z)
          (ap (λ (b : Bool). if b then Found q.frame.words else words_in q.frame.serial (q.below ++ without c.serial q.made)) (alike q.frame.serial)) refl
          (word_there q.frame.words n_at old.old (omega arith) old.there) (fits_plain old.old z old.no_refer)).1

      frames_then : with_frame_words back q.frame.serial others ≡ with_frames q (with_words q.frame others) q.below []
      frames_then =
          let c' : change q.frame.serial others q.frame ≡ with_words q.frame others =
          ap (λ (b : Bool). if b then with_words q.frame others else q.frame) (alike q.frame.serial) in
          let d : map (change q.frame.serial others) q.below ≡ q.below =
          older_stay m k i x q.frame.serial others Awaited p.frame.answer q.frame p.below q.below (omega arith) on_way.waits in
          let e : map (change q.frame.serial others) (without c.serial q.made) ≡ [] = ap (map (change q.frame.serial others)) none_made in
          ap (λ (h : Frame). with_frames q h (map (change q.frame.serial others) q.below) (map (change q.frame.serial others) (without c.serial q.made))) c'
          ∙ (ap (λ (hs : List Frame). with_frames q (with_words q.frame others) hs (map (change q.frame.serial others) (without c.serial q.made))) d
          ∙ ap (λ (hs : List Frame). with_frames q (with_words q.frame others) q.below hs) e)

      answers_machine : Machine (Answers u (system.Num z)) → (sides m).code.step x q ≡ Went (with_outside x u) then_q
      answers_machine e =
          e ∙ (ap (λ (a : Access Memory). or_fault x q (a >>= λ m. Found (next m))) stored
          ∙ ap (λ (r : Process). Went (with_outside x u) (with_frames r (at_pc r.frame (suc r.frame.pc)) r.below r.made)) frames_then)

      -- no request is waited for
      abbrev no_writing : Writing
      no_writing = record { tag = 0; written = 0; asked = 0; left = [] }

      pub answer_goes : Machine (Answers u (system.Num z)) → Source (Answers u (system.Num z)) → Next m b i p 1 k w x q
      answer_goes e d =
          let a = asking u no_writing in
          stepped (sides m) (place m) (λ l z r t. Way (sides m) (place m) 1 l i z r t) k g.now i w x (with_outside x u) p q then_q
          (answers_machine e) (changes_then u) (meaning.with_outside w u)
          (code.with_frames p (code.answered frame_then (Num z)) p.below) d (g.after.0, refl)
          (tidy_way m b g.now i (meaning.with_outside w u) (with_outside x u) (asks_p u no_writing) (asks_q u no_writing) a a.behind (both_hold u no_writing)
          (g.after.0, refl) u z range)

    -- it is waited for
    asks_go : (u : outside.World) (r : Request) (writing : Writing) → Machine (Requests u r writing) → Source (Requests u r writing) → Next m b i p 1 k w x q
    asks_go u r writing e d =
        subst (λ t. Does (sides m) (place m) (λ l z r t. Way (sides m) (place m) 1 l i z r t) (place m q) k i w x p t) (sym e) (record {
          now = g.now;
          changes = changes_then u;
          world = meaning.with_outside w u;
          after = asks_p u writing;
          comes = record { steps = 0; world = w; before = p; quiets = quiets_none (sides m).program (sides m).naming w p; does = d };
          related = (asking u writing, both_hold u writing);
          worlds = (g.after.0, refl);
        })

    by_answer : (u : outside.World) (v : system.Value) → IsInt v → Machine (Answers u v) → Source (Answers u v) → Next m b i p 1 k w x q
    by_answer u v (z, same, range) e d =
        answer_goes u z range (subst (λ (v : system.Value). Machine (Answers u v)) same e) (subst (λ (v : system.Value). Source (Answers u v)) same d)

    by_text : (t : List ℕ) → Machine (print w.outside t) → Source (print w.outside t) → Next m b i p 1 k w x q
    by_text [] e d = by_answer w.outside _ (print_int w.outside []) e d
    by_text (a ∷ more) e d = asks_go _ _ _ e d

    -- ---- the call

    source_does : Source (print w.outside text)
    source_does = ap (code.next frames_limit (program m) w p) here

    frame_found : (source_word x q (own made_place) >>= frame_at x q) ≡ Found c
    frame_found =
        ap (λ (a : Access Word). a >>= frame_at x q)
        (operands_are_read.source_any_word x q (own made_place) q.frame.words made_place (spots_lead.own x q made_place).0 ∙ has.address)
        ∙ (on (words_in c.serial (all_frames q)) c.words (λ ws. made_frame q.made c.serial) (made_words m k i x (into ∷ []) n f j p q on_way c has)
        ∙ made_found m k i x (into ∷ []) n f j p q on_way c has)

    sys_found : (source_reference x q (own r_at) >>= loaded_module >>= block x) ≡ Found sys
    sys_found =
        ap (λ (a : Access (Option ℕ)). a >>= loaded_module >>= block x)
        (operands_are_read.source_referring x q (own r_at) q.frame.words r_at (spots_lead.own x q r_at).0
        ∙ ap (λ (a : Access Word). a >>= reference) s.word)
        ∙ ap (or_wrong dead_address) (sys_there m b i p n f ps into o here none k w x q s worlds (λ n h. hold.same.live n (hold.same.roots n h)))

    -- what the frame has is there
    pub frame_reads : (at : ℕ) (r : Option ℕ) (t : List ℕ) → IsText k r t → word_at c.words (pos at) ≡ Found (Refer r) → text_at x r ≡ Found t
    frame_reads at r t is word =
        text_reads m k w x worlds r t is (λ d e.
        let h = has_counts c.words d (word_has c.words at (Refer (Some d)) (word ∙ ap (λ (r : Option ℕ). Found (Refer r)) e)) in
        let l = ap (in_frames d) has.made in
        hold.same.live d (hold.same.roots d (omega (arith, h, l))))

    called : HasFormat k (format_text ps) c.words → word_at c.words (pos answer_place) ≡ Found (Address (InFrame q.frame.serial) (pos n_at))
        → formats.formatted x c.words (format_text ps) 36 ≡ Found text
        → obey frames_limit (object_of m) x q calling op.Mcall ≡ control.prints x back (InFrame q.frame.serial) (pos n_at) (print (outside_of x) text)
    called format address makes =
        ap (λ (a : Access Frame). a >>= λ f. middle_immediate (middle.Imm (pos 16)) >>= λ k.
        source_reference x q (own r_at) >>= loaded_module >>= block x >>= λ b. function_of b k >>= λ name. sys_call x q name f) frame_found
        ∙ (ap (λ (a : Access Block). a >>= λ b. function_of b 16 >>= λ name. sys_call x q name c) sys_found
        ∙ (ap (λ (a : Access Word). fitting (a >>= reference >>= text_at x) >>= (λ format. formats.formatted x c.words format 36) >>= λ t.
        answer_spot c.words >>= λ s. place_of_spot s >>= λ place. control.prints x back place (place_in s) (print (outside_of x) t)) format.word
        ∙ (ap (λ (a : Access (List ℕ)). fitting a >>= (λ format. formats.formatted x c.words format 36) >>= λ t.
        answer_spot c.words >>= λ s. place_of_spot s >>= λ place. control.prints x back place (place_in s) (print (outside_of x) t))
        (frame_reads linkage_bytes format.refers (format_text ps) format.is format.word)
        ∙ (ap (λ (a : Access (List ℕ)). a >>= λ t.
        answer_spot c.words >>= λ s. place_of_spot s >>= λ place. control.prints x back place (place_in s) (print (outside_of x) t)) makes
        ∙ (ap (λ (a : Access Word). a >>= (λ w. behind_word w (pos 0)) >>= λ s. place_of_spot s >>= λ place.
        control.prints x back place (place_in s) (print (outside_of x) text)) address
        ∙ ap (λ (z : ℤ). control.prints x back (InFrame q.frame.serial) z (print (outside_of x) text)) (plus_nothing n_at))))))

    -- The print goes so.
    pub print_step : Reaches (object_of m ∷ []) x q (object_of m) calling → HasFormat k (format_text ps) c.words
        → word_at c.words (pos answer_place) ≡ Found (Address (InFrame q.frame.serial) (pos n_at))
        → formats.formatted x c.words (format_text ps) 36 ≡ Found text → Next m b i p 1 k w x q
    print_step reach format address makes =
        by_text text
        (steps_obey.steps frames_limit (object_of m ∷ []) x q (object_of m) calling reach
        ∙ (ap (λ a. or_fault x q a) (called format address makes)
        ∙ ap (λ (u : outside.World). or_fault x q (control.prints x back (InFrame q.frame.serial) (pos n_at) (print u text))) worlds.1))
        source_does
