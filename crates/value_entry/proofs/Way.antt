-- The entry's way: two instructions, at whose end both processes are ready at the begin of the first function.
use Rattle.std.proofs.Common.{◌≡◌, ℕ, pos, ◌-◌, ◌*◌, ◌/◌, ◌<◌, Bool, List, [], ◌∷◌, length, replicate, Option, Some, None, inl, inr, refl, sym, ap, ◌∙◌, subst, arith, if◌then◌else◌, lt-ltb}
use Rattle.std.specs.Prelude.{slice_get}
use Rattle.std.proofs.lemmas.List.{length-replicate}
use Rattle.process_model.specs.Process.{Went}
use Rattle.process_ways.specs.Ways.{Way}
use Rattle.heap_model.specs.Facts.{Named}
use Rattle.limbo_types.specs.Types.{Nothing}
use Rattle.limbo_layout.specs.Adts.{Has}
use Rattle.limbo_typed.specs.Typed as typed
use Rattle.system_model.specs.Limits.{frames_limit}
use Rattle.limbo_meaning.specs.Process.{Shared}
use Rattle.core_code.specs.Machine as code
use Rattle.core_code.specs.Slots as core
use Rattle.core_typing.specs.Held as held
use Rattle.dis_isa.specs.declared.inst.Inst.{Inst}
use Rattle.dis_isa.specs.declared.inst.Middle.TheVariants as middle
use Rattle.dis_isa.specs.declared.op.Op.TheVariants as op
use Rattle.dis_meaning.specs.Words.{Word, Refer, Address, InFrame, Access, Found, ◌>>=◌, word_at, plain}
use Rattle.dis_meaning.specs.Process.{Process}
use Rattle.dis_memory.specs.Blocks.{World}
use Rattle.dis_memory.specs.Process.{jumps}
use Rattle.dis_memory.specs.Step.{obey}
use Rattle.value_words.specs.Forms.{Instances}
use Rattle.value_words.specs.Facts.{Facts}
use Rattle.value_words.proofs.Rows.{is_there}
use Rattle.value_words.proofs.Bytes.{word_there}
use Rattle.value_frames.specs.Frames.{linkage_bytes, answer_place, spare_place, frame_bytes, frame_references}
use Rattle.value_frames.specs.Slots.{ElseAsWas}
use Rattle.value_frames.specs.Standing.{WordsAre}
use Rattle.value_frames.specs.Types.{AreOf}
use Rattle.value_frames.proofs.Later.{frames_later}
use Rattle.value_frames.proofs.Slots.{slots_change}
use Rattle.value_frames.proofs.Replacing.{kinds_stay}
use Rattle.value_moves.specs.Operands.{inst, own}
use Rattle.value_moves.proofs.Changing.{low_or_high}
use Rattle.value_moves.proofs.Leading.{spots_lead}
use Rattle.value_code.specs.Objects.{of_function, object_of, init_of, base_of, entry, entry_size}
use Rattle.value_code.specs.Works.{jump_to}
use Rattle.value_code.proofs.Codes.{entries_begin}
use Rattle.number_effects.specs.Giving.{with_word, StoresWord}
use Rattle.number_effects.specs.Stepping.{Reaches}
use Rattle.number_effects.proofs.Control.{control_goes}
use Rattle.number_effects.proofs.Records.{words_move}
use Rattle.number_effects.proofs.Stepping.{steps_obey}
use Rattle.value_follows.specs.Stands.{types_of, Awaited, FrameIs, Stands, Ready, none_waits}
use Rattle.value_follows.specs.Sides.{sides, HoldTheSame}
use Rattle.value_follows.specs.Rows.{place, Base, within, rows}
use Rattle.value_follows.proofs.Jumps.{inside_there}
use Rattle.value_follows.proofs.Putting.{word_same}
use Rattle.value_follows.proofs.Several.{names_as, hold_as, goes_silently}
use Rattle.value_follows.proofs.Standing.{instance_here}
use Rattle.rows_calling.specs.Rows.{FunctionsBegin}
use Rattle.rows_calling.proofs.Linking.{linkage_word}
use Rattle.value_entry.specs.Entry.{first_core}
use Rattle.value_entry.proofs.Places.{place_begins}

-- The machine's first process, at a place, with these words.
abbrev pub machine_at : (pc : ℕ) → List Word → Process
machine_at pc words = record {
  number = 1;
  frame = record { serial = 0; instance = 0; pc = pc; words = words };
  below = [];
  made = [];
  printing = None;
}

module _ (m : typed.Module) (n : ℕ) (f : typed.Function) (there : slice_get m.functions n ≡ Some f) (answer : f.of.answer ≡ Nothing)
    (listed : List (List ℕ)) where
  abbrev pub first : code.Process
  first = first_core m f listed

  -- The first frame stands for that of three-address code: no slot has anything, and the spare word refers to nothing.
  pub record Begun (k : Facts) (x : World) (words : List Word) : Type 0 where
    pub instance : k.fact 0 ≡ Some (Named 0)
    pub formed : k.form 0 ≡ Some Instances
    pub are : WordsAre m.adts k x.heap 0 [] (types_of m f) (replicate (of_function m f).slots held.empty) first.frame.variables
        (replicate (of_function m f).slots core.empty) words
    pub bare : (s : ℕ) → are.own s ≡ []
    pub fresh : 0 < x.outside.frames
    pub spare : word_at words (pos (spare_place m.adts (types_of m f))) ≡ Found (Refer None)

  module _ (begins : FunctionsBegin m) where
    abbrev pub begun_is : (k : Facts) (x : World) (words : List Word) (pc : ℕ) → Begun k x words → FrameIs m k 0 x [] first.frame (machine_at pc words).frame
    begun_is k x words pc b = record {
      number = n;
      function = f;
      there = there;
      code = refl;
      answer = sym answer;
      many = length-replicate (of_function m f).slots core.empty;
      instance = b.instance;
      formed = b.formed;
      known = replicate (of_function m f).slots held.empty;
      words = b.are;
      mine = λ s c h. absurd (subst (λ (o : List ℕ). Has o c) (b.bare s) h);
      fresh = b.fresh;
    }

    abbrev pub begun_stands : (k : Facts) (x : World) (words : List Word) (pc : ℕ) → Begun k x words → Stands m k 0 x [] Awaited first (machine_at pc words)
    begun_stands k x words pc b = record {
      number = refl;
      is = begun_is k x words pc b;
      goes = begins.goes n f there;
      waits = none_waits Awaited (machine_at pc words).frame;
    }

    -- so it does while others step
    pub begun_later : (k now : Facts) (x y : World) (words : List Word) → (sides m).leaves 0 k now x y → Begun k x words → Begun now y words
    begun_later k now x y words left b =
        let l = (frames_later m.adts k x.heap 0 [] (types_of m f) (replicate (of_function m f).slots held.empty) first.frame.variables
        (replicate (of_function m f).slots core.empty) words b.are).later now y.heap left.0.grows
        (λ s c h. absurd (subst (λ (o : List ℕ). Has o c) (b.bare s) h)) in
        let older = left.1 in
        let fresh = b.fresh in
        record {
          instance = left.0.grows.facts 0 (Named 0) b.instance;
          formed = left.0.grows.forms 0 Instances b.formed;
          are = l.0;
          bare = λ s. ap (λ (o : ℕ → List ℕ). o s) l.1 ∙ b.bare s;
          fresh = omega (arith, older, fresh);
          spare = b.spare;
        }

    -- at the begin of the function both are ready
    pub begun_ready : (k : Facts) (x : World) (words : List Word) → Begun k x words → Ready m k 0 x first (machine_at (base_of m n) words)
    begun_ready k x words b = record {
      stands = begun_stands k x words (base_of m n) b;
      pc = omega arith;
      spare = b.spare;
      none_made = refl;
    }

    -- ---- the two instructions

    module _ (b : Base m) (init : init_of m ≡ Some n) where
      abbrev addressing : Inst
      addressing = inst op.Lea (own 20) middle.None (own 16)

      entry_there : (j : ℕ) (c : Inst) → slice_get (entry m (Some n)) j ≡ Some c → slice_get (object_of m).insts j ≡ Some c
      entry_there j c e = entries_begin m j c (ap (λ (o : Option ℕ). slice_get (entry m o) j) init ∙ e)

      place_there : (pc : ℕ) (words : List Word) → pc < 2 → place m (machine_at pc words) ≡ pc
      place_there pc words l =
          let e = ap (entry_size m) init in
          ap (λ (b : Bool). if b then pc else within (rows m) (pc - entry_size m (init_of m))) (lt-ltb pc (entry_size m (init_of m)) (omega (arith, e, l)))

      module _ (k : Facts) (w : Shared) (x : World) (words : List Word) (begun : Begun k x words) (worlds : (sides m).worlds k w x) where
        reaches : (pc : ℕ) (c : Inst) → HoldTheSame m k 0 x first (machine_at pc words) → slice_get (entry m (Some n)) pc ≡ Some c
            → Reaches (object_of m ∷ []) x (machine_at pc words) (object_of m) c
        reaches pc c hold e =
            let is = instance_here m b k 0 w x first (machine_at pc words) [] (begun_is k x words pc begun) hold worlds.0 in
            record { object = 0; words = is.0; instance = is.1; code = refl; here = entry_there pc c e }

        -- the jump
        jump_step : HoldTheSame m k 0 x first (machine_at 1 words) → (sides m).code.step x (machine_at 1 words) ≡ Went x (machine_at (base_of m n) words)
        jump_step hold =
            let inside = inside_there m b n f 0 (replicate (of_function m f).slots held.empty) there (begins.goes n f there) in
            steps_obey.does frames_limit (object_of m ∷ []) x (machine_at 1 words) (object_of m) (jump_to (base_of m n))
            (jumps x (machine_at 1 words) (base_of m n)) (reaches 1 (jump_to (base_of m n)) hold refl)
            (control_goes.jmp frames_limit (object_of m) x (machine_at 1 words) (jump_to (base_of m n)) (base_of m n) refl refl
            (omega (arith, inside)))

        -- the address of where an answer goes that nobody reads
        abbrev it : Word
        it = Address (InFrame 0) (pos 20)

        abbrev others : List Word
        others = with_word words answer_place it

        kind : AreOf (frame_bytes m.adts (types_of m f) (length first.frame.slots)) (frame_references m.adts (types_of m f) (length first.frame.slots)) words
        kind = begun.are.kind

        old : (w : Word) × (word_at words (pos answer_place) >>= plain ≡ Found w)
        old = linkage_word m.adts (types_of m f) (length first.frame.slots) words kind 4 (omega arith)

        passing : (w : Word) × (slice_get words 5 ≡ Some w)
        passing = let many = kind.many in is_there words 5 (omega (arith, many))

        stored : StoresWord (obey frames_limit (object_of m) x (machine_at 0 words) addressing op.Lea) x (machine_at 0 words)
            (spots_lead.own x (machine_at 0 words) answer_place).0.place words answer_place it
        stored =
            let s = (spots_lead.own x (machine_at 0 words) 20).0 in
            subst (λ (a : Word). StoresWord (obey frames_limit (object_of m) x (machine_at 0 words) addressing op.Lea) x (machine_at 0 words)
            (spots_lead.own x (machine_at 0 words) answer_place).0.place words answer_place a)
            (words_move.own_address x (machine_at 0 words) 20 words 20 s)
            (words_move.lea frames_limit (object_of m) x (machine_at 0 words) addressing words 20 s passing.0 words answer_place
            (spots_lead.own x (machine_at 0 words) answer_place).0 old.0 refl passing.1 old.1)

        address_step : HoldTheSame m k 0 x first (machine_at 0 words) → (sides m).code.step x (machine_at 0 words) ≡ Went x (machine_at 1 others)
        address_step hold =
            let lead = spots_lead.own x (machine_at 0 words) answer_place in
            steps_obey.stores frames_limit (object_of m ∷ []) x (machine_at 0 words) (object_of m) addressing x lead.0.place others _
            (reaches 0 addressing hold refl) stored.1 (lead.1 others)

        -- the frame stands for what it stood for
        linkage_else : ElseAsWas words others 0 linkage_bytes
        linkage_else = record {
          each = λ w out. elim (low_or_high (4 * w) linkage_bytes) [
            | inl below ↦ absurd (out (omega arith, below))
            | inr above ↦ stored.0.changes.words w (inr (omega (arith, above)))
          ];
        }

        others_kind : AreOf (frame_bytes m.adts (types_of m f) (length first.frame.slots)) (frame_references m.adts (types_of m f) (length first.frame.slots)) others
        others_kind =
            kinds_stay.all (frame_bytes m.adts (types_of m f) (length first.frame.slots)) (frame_references m.adts (types_of m f) (length first.frame.slots))
            words others kind stored.0.changes.many stored.0.changes.refer stored.0.changes.referred (stored.0.ranged (λ z e. absurd cc) kind.ranged)

        begun_then : Begun k x others
        begun_then =
            let after = slots_change.linkage m.adts k x.heap 0 [] (types_of m f) (replicate (of_function m f).slots held.empty) first.frame.variables
            (replicate (of_function m f).slots core.empty) words others begun.are linkage_else others_kind in
            record {
              instance = begun.instance;
              formed = begun.formed;
              are = after.0;
              bare = λ s. ap (λ (o : ℕ → List ℕ). o s) after.1 ∙ begun.bare s;
              fresh = begun.fresh;
              spare = word_same words others (spare_place m.adts (types_of m f))
                  (stored.0.changes.words (spare_place m.adts (types_of m f) / 4) (inr (omega arith))) ∙ begun.spare;
            }

        -- what stood there refers to nothing
        old_refers : (v : Word) → slice_get words 4 ≡ Some v → (r : Option ℕ) → v ≡ Refer r → ⊥
        old_refers v e r g =
            let w : word_at words (pos answer_place) ≡ Found (Refer r) =
            word_there words answer_place (Refer r) refl (e ∙ ap (λ (u : Word). Some u) g) in
            absurd (let c = sym (ap (λ (a : Access Word). a >>= plain) w) ∙ old.1 in cc)

        holds_then : HoldTheSame m k 0 x first (machine_at 0 words) → HoldTheSame m k 0 x first (machine_at 1 others)
        holds_then hold =
            let many = kind.many in
            let v = is_there words 4 (omega (arith, many)) in
            hold_as m b 0 first k x (machine_at 0 words) (machine_at 1 others)
            (λ o. let e = names_as o words 4 v.0 it v.1 (old_refers v.0 v.1) (λ r e. absurd cc) in omega (arith, e)) hold

      -- the way from the second instruction on, and from the first
      way_jumps : (k : Facts) (x : World) (words : List Word) → Begun k x words → HoldTheSame m k 0 x first (machine_at 1 words)
          → Way (sides m) (place m) 1 k 0 x first (machine_at 1 words)
      way_jumps k x words begun hold = (
        hold,
        λ now y w left h worlds.
            let again = begun_later k now x y words left begun in
            let at = place_there 1 words (omega arith) in
            let to = place_begins m n f there (machine_at (base_of m n) words) refl in
            goes_silently m b 0 first 0 now w y (machine_at 1 words) (machine_at (base_of m n) words) (jump_step now w y words again worlds h) worlds
            (omega (arith, at, to)) (begun_ready now y words again, h),
      )

      pub way_begins : (k : Facts) (x : World) (words : List Word) → Begun k x words → HoldTheSame m k 0 x first (machine_at 0 words)
          → Way (sides m) (place m) 2 k 0 x first (machine_at 0 words)
      way_begins k x words begun hold = (
        hold,
        λ now y w left h worlds.
            let again = begun_later k now x y words left begun in
            let after = others now w y words again worlds in
            let at = place_there 0 words (omega arith) in
            let to = place_there 1 after (omega arith) in
            goes_silently m b 0 first 1 now w y (machine_at 0 words) (machine_at 1 after) (address_step now w y words again worlds h) worlds
            (omega (arith, at, to))
            (way_jumps now y after (begun_then now w y words again worlds) (holds_then now w y words again worlds h)),
      )
