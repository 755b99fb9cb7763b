-- A record of a process comes to refer to the new one: the step, and what stays as it was.
use Rattle.std.proofs.Common.{◌≡◌, ◌≢◌, ◌⊎◌, ℕ, true, suc, pos, ◌+◌, ◌*◌, ◌/◌, ◌<◌, ◌≤◌, List, [], ◌∷◌, Option, Some, None, refl, sym, ap, ◌∙◌, subst, arith, inl, inr}
use Rattle.std.specs.Prelude.{slice_get}
use Rattle.std.proofs.lemmas.List.{length-set}
use Rattle.process_model.specs.Process.{Went}
use Rattle.process_model.specs.Follows.{Only}
use Rattle.process_ways.specs.Ways.{Way}
use Rattle.process_ways.proofs.On.{silent}
use Rattle.heap_model.specs.Heap.{at, there, in_one}
use Rattle.heap_model.specs.Facts.{Carrier, Free}
use Rattle.heap_model.specs.Worlds.{Sets}
use Rattle.heap_model.proofs.Heap.{there_is, there_of, within}
use Rattle.heap_model.proofs.Changes.{set_free, there_on}
use Rattle.heap_model.proofs.Growing.{grows_same}
use Rattle.limbo_types.specs.Types as ty
use Rattle.limbo_types.specs.Types.{Ty}
use Rattle.limbo_layout.specs.Adts.{Def, Has}
use Rattle.limbo_typed.specs.Typed as typed
use Rattle.limbo_meaning.specs.Process.{Shared}
use Rattle.limbo_meaning.specs.Values.{Value, Ref}
use Rattle.system_model.specs.Limits.{frames_limit}
use Rattle.core_code.specs.Code.{Instr, Keep}
use Rattle.core_code.specs.Machine as code
use Rattle.core_code.specs.Slots as core
use Rattle.core_typing.specs.Held as held
use Rattle.core_typing.specs.Held.{slots_in}
use Rattle.dis_isa.specs.declared.inst.Inst.{Inst}
use Rattle.dis_isa.specs.declared.inst.Middle.TheVariants as middle
use Rattle.dis_isa.specs.declared.op.Op.TheVariants as op
use Rattle.dis_meaning.specs.Words.{Word, Refer, Access, Found, ◌>>=◌, word_at, reference}
use Rattle.dis_meaning.specs.Counts.{in_words}
use Rattle.dis_meaning.specs.Process.{Process}
use Rattle.dis_memory.specs.Blocks.{Record, World, with_changed}
use Rattle.dis_memory.specs.Naming as machine
use Rattle.dis_memory.specs.Naming.{inside}
use Rattle.dis_memory.specs.Places.{source_reference, middle_reference}
use Rattle.dis_memory.specs.Step.{obey}
use Rattle.value_words.specs.Forms.{OwnedBy}
use Rattle.value_words.specs.Facts.{Facts, Grows}
use Rattle.value_words.specs.Stands as memory
use Rattle.value_words.specs.Stands.{a_number, a_text, a_name, an_array, no_words, a_tuple, an_adt}
use Rattle.value_words.proofs.Bytes.{word_found}
use Rattle.value_heaps.proofs.Words.{named_by}
use Rattle.value_frames.specs.Frames.{spare_place}
use Rattle.value_frames.specs.Types.{AreOf}
use Rattle.value_frames.specs.Standing.{RegionStands, WordsAre}
use Rattle.value_frames.proofs.Later.{frames_later}
use Rattle.value_frames.proofs.Replacing.{kinds_stay}
use Rattle.value_moves.specs.Operands.{inst, own, behind}
use Rattle.value_moves.specs.Spots.{Leads}
use Rattle.value_moves.proofs.Leading.{spots_lead}
use Rattle.value_code.specs.Objects.{object_of, placed}
use Rattle.value_code.specs.Code.{nil_middle, code_of}
use Rattle.number_effects.specs.Giving.{with_word, WordStored, StoresWord}
use Rattle.number_effects.specs.Stepping.{Reaches}
use Rattle.number_effects.proofs.Reading.{operands_are_read}
use Rattle.number_effects.proofs.Records.{words_move}
use Rattle.number_effects.proofs.Stepping.{steps_obey}
use Rattle.value_follows.specs.Stands.{types_of, place_of, Awaited}
use Rattle.value_follows.specs.Sides.{sides, contents, HoldTheSame}
use Rattle.value_follows.specs.Rows.{place, Base, site_of}
use Rattle.value_follows.proofs.Open.{nothing_known}
use Rattle.value_follows.proofs.Several.{Next as Goes, moved_to}
use Rattle.value_follows.proofs.Standing.{all_wait, instance_here}
use Rattle.value_follows.proofs.Waiting.{all_wait_later}
use Rattle.rows_dropping.proofs.Spare.{set_there}
use Rattle.rows_turning.proofs.Regions.{region_moves}
use Rattle.rows_chaining.proofs.Over.{Over, over_frame, over_row, over_reaches}
use Rattle.rows_chaining.proofs.Linked.{stored_more, stored_fewer}
use Rattle.rows_chaining.proofs.Holding.{hold_stored}

-- the word that refers to nothing
nil_refers : (defs : List Def) (k : Facts) (words : List Word) (at : ℕ) (t : Ty) (v : Value) → v ≡ Ref None → memory.Stands defs k words at t v
    → word_at words (pos at) ≡ Found (Refer None)
nil_refers defs k words _ _ _ e (a_number at j z f i) = absurd cc
nil_refers defs k words _ _ _ e (a_text at r s f i) = absurd cc
nil_refers defs k words _ _ _ e (a_name at t None n i f h) = f
nil_refers defs k words _ _ _ e (a_name at t (Some b) None i f h) = absurd h
nil_refers defs k words _ _ _ e (a_name at t (Some b) (Some n) i f h) = absurd cc
nil_refers defs k words _ _ _ e (an_array at t r p f i) = absurd cc
nil_refers defs k words _ _ _ e (no_words at) = absurd cc
nil_refers defs k words _ _ _ e (a_tuple at ts rs vs l all) = absurd cc
nil_refers defs k words _ _ _ e (an_adt at n d rs vs f l all) = absurd cc

-- What stands behind such a step: the record has another word, and all else is as it was.
pub record Stored (m : typed.Module) (k : Facts) (i : ℕ) (x y : World) (busy : List ℕ) (n : ℕ) (f : typed.Function) (j c : ℕ) (p : code.Process)
    (q : Process) (before : Over m k i x busy n f j (Some c) p q) (e : ℕ) (es : List Word) (to : ℕ) : Type 0 where
  pub others : List Word
  pub there : at y.heap e ≡ Some (Record others)
  pub apart : (d : ℕ) → d ≢ e → at y.heap d ≡ at x.heap d
  pub word : word_at others (pos to) ≡ Found (Refer (Some c))
  pub words : (u : ℕ) → (4 * u + 4 ≤ to) ⊎ (to + 4 ≤ 4 * u) → slice_get others u ≡ slice_get es u
  pub kind : (size : ℕ) (offsets : List ℕ) → AreOf size offsets es → AreOf size offsets others
  pub region : (hs : held.Region) (g : core.Region) (owned : List ℕ) → RegionStands m.adts k y.heap q.frame.serial es 8 hs g owned
      → RegionStands m.adts k y.heap q.frame.serial others 8 hs g owned
  pub over : Over m k i y busy n f (suc j) (Some c) p (moved_to q (place_of m n f p.frame.pc + suc j) q.frame.words)
  pub own_so : over.words.own ≡ before.words.own
  pub known_so : over.known ≡ before.known

module _ (m : typed.Module) (b : Base m) (loop from words i : ℕ) (p : code.Process) (n : ℕ) (f : typed.Function)
    (here : slice_get p.frame.code p.frame.pc ≡ Some (Keep loop from words)) (busy : List ℕ) (c j : ℕ) (k : Facts) (w : Shared) (x : World) (q : Process)
    (over : Over m k i x busy n f j (Some c) p q) (hold : HoldTheSame m k i x p q) (worlds : (sides m).worlds k w x) where
  abbrev it : Instr
  it = Keep loop from words

  abbrev types : List Ty
  types = types_of m f

  abbrev spare_at : ℕ
  spare_at = spare_place m.adts types

  abbrev begin : ℕ
  begin = place_of m n f p.frame.pc

  pub reaches : (to : ℕ) (inst : Inst) → j ≡ to
      → slice_get (code_of (site_of m n f p.frame.pc (over_row m k i x busy n f j (Some c) p q over it here b w hold worlds).at) it) to ≡ Some inst
      → Reaches (object_of m ∷ []) x q (object_of m) inst
  reaches to inst e is =
      let at = over.pc in
      let r = over_reaches m k i x busy n f j (Some c) p q over it here b w hold worlds to inst q.frame.pc q.frame.words (omega (arith, at, e)) is in
      record { object = r.object; words = r.words; instance = r.instance; code = r.code; here = r.here }

  pub nil_read : middle_reference x q nil_middle ≡ Found None
  nil_read =
      let there = instance_here m b k i w x p q busy (over_frame m k i x busy n f j (Some c) p q over) hold worlds.0 in
      operands_are_read.module_reference x q 0 there.0 4 there.1
      ∙ ap (λ (a : Access Word). a >>= reference)
      (nil_refers m.adts k there.0 4 ty.Nil (Ref None) refl (there.2 (placed m 4 ty.Nil (Ref None)) (inr (inl refl))).stands)

  pub spare_read : source_reference x q (own spare_at) ≡ Found (Some c)
  spare_read =
      operands_are_read.source_referring x q (own spare_at) q.frame.words spare_at (spots_lead.own x q spare_at).0
      ∙ ap (λ (a : Access Word). a >>= reference) over.spare

  pub named_new : 0 < machine.names q c
  named_new = let h = named_by q.frame.words (spare_at / 4) c (word_found q.frame.words spare_at (Refer (Some c)) over.spare).1 in omega (arith, h)

  module _ (e : ℕ) (es : List Word) (found : at x.heap e ≡ Some (Record es)) (free : Free k e) (made : k.maker e ≡ Some i)
      (formed : k.form e ≡ Some (OwnedBy q.frame.serial)) (less : e < c) (apart : (s d : ℕ) → Has (over.words.own s) d → d ≢ e)
      (to : ℕ) (low : to ≤ 4) (old : Option ℕ) (was : word_at es (pos to) ≡ Found (Refer old))
      (old_named : (d : ℕ) → old ≡ Some d → 0 < machine.names q d) (from_at : ℕ) (word : word_at q.frame.words (pos from_at) ≡ Found (Refer (Some e))) where
    abbrev link : Inst
    link = inst op.Movp (own spare_at) middle.None (behind from_at to)

    abbrev lead : Leads x q (behind from_at to) es to
    lead = (spots_lead.inner x q from_at e es to word found).0

    stores : StoresWord (obey frames_limit (object_of m) x q link op.Movp) x q lead.place es to (Refer (Some c))
    stores = words_move.reference frames_limit (object_of m) x q link (Some c) es to lead old refl spare_read was

    pub stored : WordStored es to (Refer (Some c))
    stored = stores.0

    abbrev pub others : List Word
    others = with_word es to (Refer (Some c))

    abbrev pub y : World
    y = with_changed x e (Record others)

    abbrev pub then : Process
    then = moved_to q (begin + suc j) q.frame.words

    step : (to_j : ℕ) → j ≡ to_j
        → slice_get (code_of (site_of m n f p.frame.pc (over_row m k i x busy n f j (Some c) p q over it here b w hold worlds).at) it) to_j ≡ Some link
        → (sides m).code.step x q ≡ Went y then
    step to_j same is =
        let at = over.pc in
        let past : suc q.frame.pc ≡ begin + suc j = omega (arith, at) in
        steps_obey.stores frames_limit (object_of m ∷ []) x q (object_of m) link x lead.place others _ (reaches to_j link same is) stores.1
        ((spots_lead.inner x q from_at e es to word found).1 others)
        ∙ ap (λ (pc : ℕ). Went y (moved_to q pc q.frame.words)) past

    pub set_so : Sets x.heap y.heap e (Some (Record others))
    set_so = set_there x.heap e (Record others) (Record es) found

    unknown : k.fact e ≡ None
    unknown = nothing_known (k.fact e) free (λ z. worlds.0.bares e (Record es) z found)

    refers_then : (d : ℕ) → 0 < inside (Record others) d → (d ≡ c) ⊎ (0 < in_words d es)
    refers_then d h = elim (stored_more es to (Some c) old was stored d h) [
      | inl u ↦ inr u
      | inr z ↦ inl cc
    ]

    live_then : (d : ℕ) → 0 < inside (Record others) d → there (at x.heap d) ≡ true
    live_then d h = elim (refers_then d h) [
      | inl z ↦ subst (λ v. there (at x.heap v) ≡ true) (sym z) (hold.same.live c (hold.same.roots c named_new))
      | inr z ↦ worlds.0.closed.closed e d (there_of (at x.heap e) (Record es) found) (subst (λ o. 0 < in_one inside o d) (sym found) z)
    ]

    order_then : (d : ℕ) → Free k d → 0 < inside (Record others) d → e < d
    order_then d free_d h = elim (refers_then d h) [
      | inl z ↦ subst (λ v. e < v) (sym z) less
      | inr z ↦ worlds.0.frees e d (Record es) free free_d found z
    ]

    pub worlds_then : (sides m).worlds k w y
    worlds_then = (
      set_free (contents m) k w.heap x.heap y.heap e (Record others) worlds.0 unknown
          (let long = length-set x.heap e (Some (Record others)) in omega (arith, long))
          (let long = length-set x.heap e (Some (Record others)) in
          let l = within x.heap e (there_of (at x.heap e) (Record es) found) in omega (arith, long, l))
          set_so live_then order_then,
      worlds.1,
    )

    changes_then : (sides m).changes (Only i) k k x y
    changes_then = (
      record {
        grows = grows_same k;
        there = λ d v z. there_is (at y.heap d) (there_on x.heap y.heap e (Record others) set_so d (there_of (at x.heap d) v z));
        free = λ d j f z ne. (refl, set_so.apart d (λ u. ne (let v : Some i ≡ Some j = sym made ∙ (ap k.maker (sym u) ∙ z) in cc)));
        carriers = λ d v z. set_so.apart d (λ u. let o : None ≡ Some (Carrier v) = sym unknown ∙ (ap k.fact (sym u) ∙ z) in absurd cc);
      },
      omega arith,
    )

    pub grows : Grows k k
    grows = record { facts = λ n f e. e; makers = λ n j e. e; forms = λ n o e. e }

    pub words_after : (now : WordsAre m.adts k y.heap q.frame.serial busy types over.known p.frame.variables p.frame.slots q.frame.words)
        × (now.own ≡ over.words.own)
    words_after =
        let later = frames_later m.adts k x.heap q.frame.serial busy types over.known p.frame.variables p.frame.slots q.frame.words over.words in
        later.later k y.heap grows (λ s d h. ((later.owned s d h).0, set_so.apart d (apart s d h)))

    abbrev pub over_then : Over m k i y busy n f (suc j) (Some c) p then
    over_then = record {
      process = over.process;
      there = over.there;
      code = over.code;
      answer = over.answer;
      many = over.many;
      instance = over.instance;
      formed = over.formed;
      known = over.known;
      words = words_after.0;
      mine = λ s d h. over.mine s d (subst (λ (o : ℕ → List ℕ). Has (o s) d) words_after.1 h);
      fresh = over.fresh;
      goes = over.goes;
      waits = all_wait m k i y Awaited p.frame.answer q.frame then.frame p.below q.below refl refl
          (all_wait_later m k k i x y q.frame.serial grows (omega arith)
          (λ d free_d made_d other. (free_d, set_so.apart d (λ z. other (ap k.form z ∙ formed))))
          Awaited p.frame.answer q.frame p.below q.below (omega arith) over.waits);
      pc = refl;
      spare = over.spare;
      none_made = over.none_made;
    }

    pub kind_then : (size : ℕ) (offsets : List ℕ) → AreOf size offsets es → AreOf size offsets others
    kind_then size offsets a =
        kinds_stay.all size offsets es others a stored.changes.many stored.changes.refer stored.changes.referred (stored.ranged (λ z e. absurd cc) a.ranged)

    pub region_then : (hs : held.Region) (g : core.Region) (owned : List ℕ) → RegionStands m.adts k y.heap q.frame.serial es 8 hs g owned
        → RegionStands m.adts k y.heap q.frame.serial others 8 hs g owned
    region_then hs g owned r =
        region_moves m.adts k es others y.heap q.frame.serial 8 8 hs g owned
        (λ v l.
        record {
          whole = omega arith;
          whole_too = omega arith;
          same = stored.changes.words ((8 + 4 * v) / 4) (inr (omega (arith, low)));
        }) r

    hold_then : HoldTheSame m k i y p then
    hold_then =
        hold_stored m i p q then k x e es others found
        (λ r u. elim (stored_fewer es to (Some c) old was stored r u) [
          | inl z ↦ inl z
          | inr z ↦ inr (old_named r z)
        ])
        (λ r u. elim (refers_then r u) [
          | inl z ↦ inr (subst (λ d. 0 < machine.names q d) (sym z) named_new)
          | inr z ↦ inl z
        ])
        (λ r u. u) (λ r u. u) hold

    so : Stored m k i x y busy n f j c p q over e es to
    so = record {
      others = others;
      there = set_so.here;
      apart = set_so.apart;
      word = stored.there;
      words = stored.changes.words;
      kind = kind_then;
      region = region_then;
      over = over_then;
      own_so = words_after.1;
      known_so = refl;
    }

    pub links : (l to_j : ℕ) → j ≡ to_j
        → slice_get (code_of (site_of m n f p.frame.pc (over_row m k i x busy n f j (Some c) p q over it here b w hold worlds).at) it) to_j ≡ Some link
        → place m q < place m then
        → ((z : World) → Stored m k i x z busy n f j c p q over e es to → HoldTheSame m k i z p then → Way (sides m) (place m) l k i z p then)
        → Goes m b i p l k w x q
    links l to_j same is pace way =
        silent (sides m) (place m) (λ o z r t. Way (sides m) (place m) l o i z r t) k k i w x y p q then (step to_j same is) changes_then worlds_then pace
        (way y so hold_then)
