-- The first two instructions of a region that comes back: the loop's chain isn't at its end, and the spare word comes to refer to its first
-- record.
use Rattle.std.proofs.Common.{◌≡◌, ℕ, false, zero, suc, pos, ◌+◌, ◌*◌, ◌/◌, ◌<◌, List, [], ◌∷◌, ◌++◌, length, Option, Some, None, refl, sym, ap, ◌∙◌, subst, arith, inl, inr}
use Rattle.std.specs.Prelude.{slice_get}
use Rattle.heap_model.specs.Heap.{Heap}
use Rattle.heap_model.specs.Worlds.{WorldsAlike}
use Rattle.limbo_layout.specs.Adts.{Def, Has}
use Rattle.limbo_types.specs.Types.{Ty}
use Rattle.limbo_typed.specs.Typed as typed
use Rattle.limbo_values.specs.declared.operator.Comparison.TheVariants as comparison
use Rattle.limbo_meaning.specs.Process.{Shared}
use Rattle.limbo_meaning.specs.Program.{routine_of}
use Rattle.core_code.proofs.Closed.{functions_are_closed}
use Rattle.system_model.specs.Limits.{frames_limit}
use Rattle.core_code.specs.Code.{Instr, Take}
use Rattle.core_code.specs.Machine as code
use Rattle.core_code.specs.Slots as core
use Rattle.core_code.specs.Slots.{Slot, Regions, MoreRegions, chain_of}
use Rattle.core_typing.specs.Held as held
use Rattle.dis_isa.specs.declared.inst.Inst.{Inst}
use Rattle.dis_isa.specs.declared.inst.Middle.TheVariants as middle
use Rattle.dis_isa.specs.declared.inst.Operand.TheVariants as operand
use Rattle.dis_isa.specs.declared.op.Op.TheVariants as op
use Rattle.dis_meaning.specs.Words.{Word, Refer, Access, Found, ◌>>=◌, word_at, reference}
use Rattle.dis_meaning.specs.Process.{Process}
use Rattle.dis_memory.specs.Blocks.{Block, World}
use Rattle.value_words.specs.Facts.{Facts}
use Rattle.value_words.proofs.Bytes.{word_found}
use Rattle.value_words.proofs.Rows.{is_there}
use Rattle.value_roots.specs.Accounts as accounts
use Rattle.value_roots.specs.Accounts.{Accounted, AllAccounted, process_words, to_nothing}
use Rattle.value_frames.specs.Frames.{answer_place, element_place, spare_place, reference_place, frame_bytes, frame_references}
use Rattle.value_frames.specs.Slots.{ElseAsWas}
use Rattle.value_frames.specs.Standing.{ChainStands, no_chain, a_chain}
use Rattle.value_frames.proofs.Slots.{slots_change}
use Rattle.value_frames.proofs.Replacing.{kinds_stay}
use Rattle.value_moves.specs.Changing.{Changes}
use Rattle.value_moves.specs.Operands.{inst, own}
use Rattle.value_moves.proofs.Changing.{low_or_high}
use Rattle.value_moves.proofs.Leading.{spots_lead}
use Rattle.value_code.specs.Objects.{object_of, of_function}
use Rattle.value_code.specs.Code.{nil_middle}
use Rattle.number_effects.specs.Giving.{with_word}
use Rattle.number_effects.specs.Numbers.{where_holds}
use Rattle.number_effects.proofs.Numbers.{numbers_work}
use Rattle.number_effects.proofs.Reading.{operands_are_read}
use Rattle.number_effects.proofs.Records.{words_move}
use Rattle.number_effects.proofs.Stepping.{steps_obey}
use Rattle.value_follows.specs.Stands.{types_of, place_of, Awaited, Stands}
use Rattle.value_follows.specs.Sides.{of_values, sides, HoldTheSame}
use Rattle.value_follows.specs.Rooted.{IsAmong}
use Rattle.value_follows.specs.Rows.{place, Base, AreThere}
use Rattle.value_follows.proofs.Paces.{places_are}
use Rattle.value_follows.proofs.Putting.{word_same}
use Rattle.value_follows.proofs.RootedProcesses.{stands_rooted}
use Rattle.value_follows.proofs.Several.{Next as Goes, moved_to, goes_silently}
use Rattle.value_follows.proofs.Standing.{all_wait}
use Rattle.rows_lists.proofs.Needing.{row_is, used, found}
use Rattle.rows_lists.proofs.OnTheWay.{On, stands, on_way, reaches_it, rank_here}
use Rattle.rows_lists.proofs.Passing.{on_holds}
use Rattle.rows_turning.proofs.Element.{linked, nothing_changes}
use Rattle.rows_turning.proofs.Ends.{nil_read}
use Rattle.rows_turning.proofs.Loops.{loop_is}

-- ---- words of a process, which are accounted for

has_front : {A : Type 0} (xs ys : List A) (w : A) → Has xs w → Has (xs ++ ys) w
has_front [] ys w h = absurd h
has_front (x ∷ xs) ys w (inl e) = inl e
has_front (x ∷ xs) ys w (inr h) = inr (has_front xs ys w h)

has_at : {A : Type 0} (xs : List A) (k : ℕ) (w : A) → slice_get xs k ≡ Some w → Has xs w
has_at [] k w e = absurd cc
has_at (x ∷ xs) zero w e = inl cc
has_at (x ∷ xs) (suc k) w e = inr (has_at xs k w e)

one_accounted : (k : Facts) (i : ℕ) (x : Heap Block) (names : ℕ → ℕ) (ws : List Word) (w : Word) → AllAccounted k i x names ws → Has ws w
    → Accounted k i x names w
one_accounted k i x names _ w accounts.none h = absurd h
one_accounted k i x names _ w (accounts.more v ws a all) (inl e) = subst (Accounted k i x names) e a
one_accounted k i x names _ w (accounts.more v ws a all) (inr h) = one_accounted k i x names ws w all h

module _ (m : typed.Module) (i : ℕ) where
  among : (k : Facts) (w : Shared) (x : World) (q : Process) → (sides m).worlds k w x → AreThere m x q → IsAmong m k i x w.heap q
  among k w x q worlds live = record { alike = alike; live = live }
    where
      alike : WorldsAlike (of_values m) k w.heap x.heap
      alike = record {
        unmade = worlds.0.unmade;
        unnamed = worlds.0.unnamed;
        there = λ n v e. let h = worlds.0.there n v e in (h.0, h.1, h.2, h.3, h.4.0);
        here = worlds.0.here;
        texts = worlds.0.texts;
        parts = worlds.0.parts;
        carriers = worlds.0.carriers;
        frees = worlds.0.frees;
        bares = worlds.0.bares;
        closed = worlds.0.closed;
      }

  -- What a word of the running frame refers to is accounted for where nothing is on its way.
  pub word_accounted : (k : Facts) (w : Shared) (x : World) (n : ℕ) (f : typed.Function) (j : ℕ) (p : code.Process) (q : Process)
      → (on : On m k i x [] n f j p q) → HoldTheSame m k i x p q → (sides m).worlds k w x → (at : ℕ) (v : Word) → word_at q.frame.words (pos at) ≡ Found v
      → Accounted k i x.heap (code.process_names p) v
  word_accounted k w x n f j p q on hold worlds at v e =
      let same_refer : (r : Option ℕ) → ◌≡◌ {A = Access Word} (Found (Refer None)) (Found (Refer r)) → None ≡ r = λ r e. cc in
      let all = (stands_rooted m).accounted k i w.heap x [] Awaited p q (stands m k i x [] n f j p q on)
      (among k w x q worlds (λ n h. hold.same.live n (hold.same.roots n h)))
      (record {
        slots = λ s h. absurd h;
        spare = λ r e. subst (λ (o : Option ℕ). Accounted k i x.heap (code.process_names p) (Refer o)) (same_refer r (sym on.spare ∙ e)) to_nothing;
        made = subst (λ fs. AllAccounted k i x.heap (code.process_names p) (accounts.all_words fs)) (sym on.none_made) accounts.none;
        answer = tt;
      }) in
      one_accounted k i x.heap (code.process_names p) (process_words q) v all
      (inr (has_front q.frame.words _ v (has_at q.frame.words (at / 4) v (word_found q.frame.words at v e).1)))

-- ---- with a record in the spare word

-- In a function of this number two processes stand for one another, the machine's is so many instructions behind the begin of a row, and
-- its spare word refers to this.
pub record IsUp (m : typed.Module) (k : Facts) (i : ℕ) (x : World) (n : ℕ) (f : typed.Function) (j : ℕ) (r : Option ℕ) (p : code.Process)
    (q : Process) : Type 0 where
  pub stands : Stands m k i x [] Awaited p q
  pub number : stands.is.number ≡ n
  pub function : stands.is.function ≡ f
  pub pc : q.frame.pc ≡ place_of m n f p.frame.pc + j
  pub spare : word_at q.frame.words (pos (spare_place m.adts (types_of m f))) ≡ Found (Refer r)
  pub none_made : q.made ≡ []

-- So it is while others step.
pub up_later : (m : typed.Module) (b : Base m) (k now : Facts) (i : ℕ) (x y : World) (n : ℕ) (f : typed.Function) (j : ℕ) (r : Option ℕ)
    (p : code.Process) (q : Process) → (sides m).leaves i k now x y → HoldTheSame m now i y p q → IsUp m k i x n f j r p q → IsUp m now i y n f j r p q
up_later m b k now i x y n f j r p q left hold up =
    let later = b.stands_later k now i x y [] Awaited p q up.stands left hold in
    record {
      stands = later.0;
      number = later.1.number ∙ up.number;
      function = later.1.function ∙ up.function;
      pc = up.pc;
      spare = up.spare;
      none_made = up.none_made;
    }

-- The first record of a chain.
pub record FirstIs (words : List Word) (p : ℕ) : Type 0 where
  pub block : ℕ
  pub word : word_at words (pos p) ≡ Found (Refer (Some block))

first_is : (defs : List Def) (k : Facts) (x : Heap Block) (frame : ℕ) (words : List Word) (p : ℕ) (gs : held.Regions) (rs : Regions) (own : List ℕ)
    → ChainStands defs k x frame words p gs rs own → (g : core.Region) (rest : Regions) → rs ≡ MoreRegions g rest → FirstIs words p
first_is defs k x frame _ _ _ _ _ (no_chain words p e) g rest f = absurd cc
first_is defs k x frame _ _ _ _ _ (a_chain words inner p b last h hs g' gs own more is e r t) g rest f = record { block = b; word = is.word }

module _ (m : typed.Module) (b : Base m) (loop from words passes i : ℕ) (p : code.Process) (n : ℕ) (f : typed.Function)
    (here : slice_get p.frame.code p.frame.pc ≡ Some (Take loop from words passes)) (g : core.Region) (rest : Regions)
    (some : chain_of (core.slot p.frame.slots loop) ≡ MoreRegions g rest) where
  abbrev it : Instr
  it = Take loop from words passes

  abbrev types : List Ty
  types = types_of m f

  abbrev r_at : ℕ
  r_at = reference_place m.adts types loop

  abbrev spare_at : ℕ
  spare_at = spare_place m.adts types

  abbrev past : ℕ
  past = place_of m n f (suc p.frame.pc + passes)

  abbrev branch : Inst
  branch = inst op.Beqw (own r_at) nil_middle (operand.Imm (pos past))

  abbrev lift : Inst
  lift = inst op.Movp (own r_at) middle.None (own spare_at)

  module _ (k : Facts) (w : Shared) (x : World) (q : Process) (hold : HoldTheSame m k i x p q) (worlds : (sides m).worlds k w x) where
    pub first : (j : ℕ) → On m k i x [] n f j p q → FirstIs q.frame.words r_at
    first j on =
        let there = used m k i x [] n f j p q on it here in
        let needs = found m k i x [] n f j p q on it here in
        let of = loop_is m k i x n f j p q on loop there.0 needs.0 in
        first_is m.adts k x.heap q.frame.serial q.frame.words r_at needs.0.0 (chain_of (core.slot p.frame.slots loop)) (on.words.own loop) of.chain g rest some

    inside : (j : ℕ) → On m k i x [] n f j p q → past < length (object_of m).insts
    inside j on =
        let row = row_is m k i x [] n f j p q on it here in
        let within = (functions_are_closed m.adts (routine_of f)).inside p.frame.pc it row 1 0 (omega arith) in
        let t = is_there (of_function m f).code (suc p.frame.pc + passes) within in
        b.inside n f (suc p.frame.pc + passes) t.0 on.there t.1

    -- the chain isn't at its end
    pub falls : (l : ℕ) → On m k i x [] n f 0 p q
        → ((now : Facts) (v : Shared) (y : World) (r : Process) → On m now i y [] n f 1 p r → HoldTheSame m now i y p r → (sides m).worlds now v y
        → Goes m b i p l now v y r)
        → Goes m b i p (suc l) k w x q
    falls l on goes =
        let one = first 0 on in
        let r = moved_to q (suc q.frame.pc) q.frame.words in
        let after = linked m k i x [] n f 0 p q on element_place (omega arith) (omega arith) q.frame.words
        (nothing_changes q.frame.words element_place) on.words.kind.ranged (suc q.frame.pc) 1 (omega arith) in
        let step =
        steps_obey.does frames_limit (object_of m ∷ []) x q (object_of m) branch (where_holds x q false past)
        (reaches_it m b i p q [] n f 0 k w x on hold worlds it here branch refl)
        (numbers_work.references frames_limit (object_of m) x q branch comparison.Equal (Some one.block) None false past refl
        (operands_are_read.source_referring x q (own r_at) q.frame.words r_at (spots_lead.own x q r_at).0 ∙ ap (λ (a : Access Word). a >>= reference) one.word)
        (nil_read m b k i w x [] n f 0 p q on hold worlds) (ap Found (numbers_work.different (Some one.block) None (λ e. absurd cc))) refl (inside 0 on)) in
        let live = b.there_again x x q r step worlds.0.closed (λ n h. hold.same.live n (hold.same.roots n h)) in
        let held = on_holds m b i p n f k w x [] 1 r after worlds live (λ s h. absurd h) (λ s o h. absurd h) in
        let low = rank_here m b i p q [] n f 0 k w x on hold worlds it here (omega arith) in
        let high : place m r ≡ 3 = (places_are m).ranked n f p.frame.pc it 1 r on.there (row_is m k i x [] n f 0 p q on it here) (omega arith) after.pc in
        goes_silently m b i p (suc l) k w x q r step worlds (omega (arith, low, high))
        (on_way m b i p r [] n f 1 l k x after held (λ now v y grows on' hold' worlds'. goes now v y r on' hold' worlds'))

    -- the spare word comes to refer to its first record
    pub lifts : (l : ℕ) → On m k i x [] n f 1 p q
        → ((now : Facts) (v : Shared) (y : World) (r : Process) (c : ℕ) → IsUp m now i y n f 2 (Some c) p r → HoldTheSame m now i y p r
        → (sides m).worlds now v y → word_at r.frame.words (pos r_at) ≡ Found (Refer (Some c)) → Goes m b i p l now v y r)
        → Goes m b i p (suc l) k w x q
    lifts l on goes =
        let one = first 1 on in
        let word = Refer (Some one.block) in
        let lead = spots_lead.own x q spare_at in
        let stored = words_move.reference frames_limit (object_of m) x q lift (Some one.block) q.frame.words spare_at lead.0 None refl
        (operands_are_read.source_referring x q (own r_at) q.frame.words r_at (spots_lead.own x q r_at).0 ∙ ap (λ (a : Access Word). a >>= reference) one.word)
        on.spare in
        let others = with_word q.frame.words spare_at word in
        let changes = stored.0.changes in
        let kind = kinds_stay.all (frame_bytes m.adts types (length p.frame.slots)) (frame_references m.adts types (length p.frame.slots)) q.frame.words others
        on.words.kind changes.many changes.refer changes.referred (stored.0.ranged (λ z e. absurd cc) on.words.kind.ranged) in
        let after = slots_change.spare m.adts k x.heap q.frame.serial [] types on.known p.frame.variables p.frame.slots q.frame.words others on.words
        (spare_else others changes) kind in
        let r = moved_to q (suc q.frame.pc) others in
        let at_pc = on.pc in
        let up : IsUp m k i x n f 2 (Some one.block) p r = record {
          stands = record {
            number = on.process;
            is = record {
              number = n;
              function = f;
              there = on.there;
              code = on.code;
              answer = on.answer;
              many = on.many;
              instance = on.instance;
              formed = on.formed;
              known = on.known;
              words = after.0;
              mine = λ s c h. on.mine s c (subst (λ (o : ℕ → List ℕ). Has (o s) c) after.1 h);
              fresh = on.fresh;
            };
            goes = on.goes;
            waits = all_wait m k i x Awaited p.frame.answer q.frame r.frame p.below q.below refl
                (word_same q.frame.words others answer_place (changes.words (answer_place / 4) (inl (omega arith)))) on.waits;
          };
          number = refl;
          function = refl;
          pc = omega (arith, at_pc);
          spare = stored.0.there;
          none_made = on.none_made;
        } in
        let step = steps_obey.stores frames_limit (object_of m ∷ []) x q (object_of m) lift x lead.0.place others _
        (reaches_it m b i p q [] n f 1 k w x on hold worlds it here lift refl) stored.1 (lead.1 others) in
        let live = b.there_again x x q r step worlds.0.closed (λ n h. hold.same.live n (hold.same.roots n h)) in
        let account = word_accounted m i k w x n f 1 p q on hold worlds r_at word one.word in
        let held = b.holds_on_way k i w x [] Awaited p r up.stands worlds live
        (record {
          slots = λ s h. absurd h;
          spare = λ o e. subst (λ (c : Option ℕ). Accounted k i x.heap (code.process_names p) (Refer c)) (same_refer (Some one.block) o (sym up.spare ∙ e)) account;
          made = subst (λ fs. AllAccounted k i x.heap (code.process_names p) (accounts.all_words fs)) (sym on.none_made) accounts.none;
          answer = tt;
        })
        (λ s o h. absurd h) in
        let low : place m q ≡ 3 = rank_here m b i p q [] n f 1 k w x on hold worlds it here (omega arith) in
        let high : place m r ≡ 4 = (places_are m).ranked n f p.frame.pc it 2 r on.there (row_is m k i x [] n f 1 p q on it here) (omega arith) up.pc in
        let still = word_same q.frame.words others r_at (changes.words (r_at / 4) (inr (omega arith))) ∙ one.word in
        goes_silently m b i p (suc l) k w x q r step worlds (omega (arith, low, high)) (
          held,
          λ now y v left hold' worlds'. goes now v y r one.block (up_later m b k now i x y n f 2 (Some one.block) p r left hold' up) hold' worlds' still,
        )
      where
        same_refer : (c r : Option ℕ) → ◌≡◌ {A = Access Word} (Found (Refer c)) (Found (Refer r)) → c ≡ r
        same_refer c r e = cc

        spare_else : (others : List Word) → Changes q.frame.words others spare_at 4 → ElseAsWas q.frame.words others spare_at 4
        spare_else others changes = record {
          each = λ u no. elim (low_or_high (4 * u) spare_at) [
            | inl low ↦ changes.words u (inl (omega (arith, low)))
            | inr high ↦ elim (low_or_high (4 * u) (spare_at + 4)) [
              | inl within ↦ absurd (no (high, within))
              | inr past ↦ changes.words u (inr (omega (arith, past)))
            ]
          ];
        }
