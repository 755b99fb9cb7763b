-- Once all bytes of the operands are in the frame that is made, it is one whose parameters are the operands.
use Rattle.std.proofs.Common.{◌≡◌, ℕ, zero, suc, ◌+◌, ◌*◌, ◌<◌, ◌≤◌, ◌/◌, List, [], ◌∷◌, ◌++◌, Option, Some, inl, inr, refl, sym, ap, ◌∙◌, subst, arith}
use Rattle.std.specs.Prelude.{slice_get, replicate}
use Rattle.limbo_types.specs.Types as ty
use Rattle.limbo_types.specs.Types.{Ty}
use Rattle.limbo_layout.specs.Adts.{Def}
use Rattle.limbo_layout.specs.Layout.{Room, AllLaid, nothing, behind}
use Rattle.limbo_layout.specs.Laying.{rooms_of}
use Rattle.limbo_values.specs.declared.number.Kind.TheVariants as kind
use Rattle.limbo_typed.specs.Typed as typed
use Rattle.limbo_meaning.specs.Values as value
use Rattle.limbo_meaning.specs.Values.{Value, Ref, among, references_in, fitted, all_fitted}
use Rattle.core_code.specs.Rooms.{rooms_in}
use Rattle.core_code.specs.Code.{Call}
use Rattle.core_code.specs.Machine as code
use Rattle.core_code.specs.Naming.{AreOf}
use Rattle.core_code.specs.Slots as core
use Rattle.core_code.proofs.Names.{fitted_names}
use Rattle.core_typing.specs.Held as held
use Rattle.core_typing.specs.Needs.{StandsAs, AllStandAs, MayBeNil}
use Rattle.dis_meaning.specs.Words.{Word}
use Rattle.dis_meaning.specs.Process.{Frame, Process, with_words}
use Rattle.dis_memory.specs.Blocks.{World}
use Rattle.value_words.specs.Facts.{Facts}
use Rattle.value_words.specs.Stands.{Stands, AllStand, none_stand, more_stand, a_number, a_text, a_name, an_array, no_words, a_tuple, an_adt}
use Rattle.value_words.proofs.Wholes.{stands_whole}
use Rattle.value_frames.specs.Frames.{linkage_bytes, spare_place, row_of}
use Rattle.value_frames.specs.Slots.{ElseAsWas}
use Rattle.value_frames.proofs.Slots.{slots_change}
use Rattle.value_moves.proofs.Changing.{low_or_high}
use Rattle.value_roots.proofs.Words.{either}
use Rattle.value_code.specs.Objects.{of_function}
use Rattle.value_follows.specs.Stands.{types_of}
use Rattle.value_follows.specs.Rows.{Base}
use Rattle.value_follows.proofs.Putting.{word_same}
use Rattle.rows_calling.proofs.OnTheWay.{On}
use Rattle.rows_calling.proofs.Making.{Called}
use Rattle.rows_calling.proofs.Framing.{zero_frame}
use Rattle.rows_forming.proofs.Putting.{slot_among}
use Rattle.rows_passing.specs.Rows.{ParametersPass}
use Rattle.rows_passing.proofs.Row.{longer_size}
use Rattle.rows_passing.proofs.Parameters.{passed}
use Rattle.rows_passing.proofs.Passing.{IsTogether}
use Rattle.rows_passing.proofs.Steps.{Now, Source, source, room, behind_args, first_types, now_there, from, kind_now, ranged_inner}

-- ---- operands are values of the parameters' types

module _ (defs : List Def) (k : Facts) (words : List Word) where
  of_variant : (at : ℕ) (u : Ty) (a j : ℕ) (v : Value) → u ≡ ty.RefPick a j → Stands defs k words at u v → fitted defs (ty.RefAdt a) v ≡ v
  of_variant _ _ a j _ e (a_number at kind.Byte z f i) = absurd cc
  of_variant _ _ a j _ e (a_number at kind.Int z f i) = absurd cc
  of_variant _ _ a j _ e (a_number at kind.Big z f i) = absurd cc
  of_variant _ _ a j _ e (a_text at r s f i) = absurd cc
  of_variant _ _ a j _ e (a_name at u r n i f h) = refl
  of_variant _ _ a j _ e (an_array at u r q f i) = absurd cc
  of_variant _ _ a j _ e (no_words at) = absurd cc
  of_variant _ _ a j _ e (a_tuple at ts rs vs l all) = absurd cc
  of_variant _ _ a j _ e (an_adt at n d rs vs f l all) = absurd cc

  name_fits : (t : Ty) (n : Option ℕ) → MayBeNil t → fitted defs t (Ref n) ≡ Ref n
  name_fits (ty.ListOf t) n h = refl
  name_fits (ty.ChanOf t) n h = refl
  name_fits (ty.RefAdt a) n h = refl
  name_fits (ty.RefPick a j) n h = refl
  name_fits (ty.Module a) n h = refl
  name_fits t n h = absurd h

  of_nil : (at : ℕ) (u t : Ty) (v : Value) → u ≡ ty.Nil → MayBeNil t → Stands defs k words at u v → fitted defs t v ≡ v
  of_nil _ _ t _ e h (a_number at kind.Byte z f i) = absurd cc
  of_nil _ _ t _ e h (a_number at kind.Int z f i) = absurd cc
  of_nil _ _ t _ e h (a_number at kind.Big z f i) = absurd cc
  of_nil _ _ t _ e h (a_text at r s f i) = absurd cc
  of_nil _ _ t _ e h (a_name at u r n i f g) = name_fits t n h
  of_nil _ _ t _ e h (an_array at u r q f i) = absurd cc
  of_nil _ _ t _ e h (no_words at) = absurd cc
  of_nil _ _ t _ e h (a_tuple at ts rs vs l all) = absurd cc
  of_nil _ _ t _ e h (an_adt at n d rs vs f l all) = absurd cc

  fits_as : (at : ℕ) (u t : Ty) (v : Value) → StandsAs u t → Stands defs k words at u v → fitted defs t v ≡ v
  fits_as at u t v (inl (inl e)) s = sym (stands_whole defs k words at t v (subst (λ y. Stands defs k words at y v) e s))
  fits_as at (ty.RefPick a j) t v (inl (inr e)) s = ap (λ (y : Ty). fitted defs y v) e ∙ of_variant at (ty.RefPick a j) a j v refl s
  fits_as at u t v (inl (inr e)) s = absurd e
  fits_as at u t v (inr n) s = of_nil at u t v n.0 n.1 s

  are_of : (at : ℕ) (w : Room) (us ts more : List Ty) (rs : List Room) (vs : List Value) → AllStandAs us ts → AllStand defs k words at w us rs vs
      → AreOf defs (ts ++ more) vs
  are_of _ _ _ [] more _ _ so (none_stand at w) = tt
  are_of _ _ _ (t ∷ ts) more _ _ so (none_stand at w) = absurd so
  are_of _ _ _ [] more _ _ so (more_stand at w u us r rs v vs s rest) = absurd so
  are_of _ _ _ (t ∷ ts) more _ _ so (more_stand at w u us r rs v vs s rest) = (inl (fits_as _ u t v so.0 s), are_of at (behind w r) us ts more rs vs so.1 rest)

module _ (m : typed.Module) (i : ℕ) (p : code.Process) (n : ℕ) (f : typed.Function) (t : Ty) (fn into a : ℕ)
    (here : slice_get p.frame.code p.frame.pc ≡ Some (Call t fn into (Some a))) (b : Base m) (pass : ParametersPass m) (g : typed.Function)
    (there : slice_get m.functions fn ≡ Some g) where
  abbrev pub args : List Value
  args = code.operands p.frame.slots (Some a)

  -- the frame that is called
  abbrev pub callee : code.Frame
  callee = code.frame_of m.adts p.frame.instance (of_function m g) t args

  abbrev zero_one : code.Frame
  zero_one = zero_frame m i p fn g t

  abbrev types : List Ty
  types = types_of m g

  empties_name : (o l : ℕ) → core.slots_name (replicate l core.empty) o ≡ 0
  empties_name o zero = refl
  empties_name o (suc l) = let e = empties_name o l in omega (arith, e)

  module _ (k : Facts) (x : World) (busy : List ℕ) (j : ℕ) (q : Process) (on : On m k i x busy n f j p q)
      (s : IsTogether m k i x busy n f j p q on t fn a) where
    values_are : s.values ≡ args
    values_are = sym (ap core.operands_of s.holds)

    -- it names nothing that its caller doesn't
    pub callee_named : (o : ℕ) → 0 < code.frame_names callee o → 0 < code.process_names p o
    callee_named o l =
        let c = source m i p n f t fn into a here b pass g there k x busy j q on s in
        let are = subst (λ (ts : List Ty). AreOf m.adts ts args) (first_types m i p n f t fn into a here b pass g there)
        (subst (λ (vs : List Value). AreOf m.adts (g.of.args ++ behind_args m i p n f t fn into a here b pass g there) vs) values_are
        (are_of m.adts k s.inner 0 nothing s.us g.of.args (behind_args m i p n f t fn into a here b pass g there) (rooms_of (rooms_in m.adts) s.us) s.values
        c.fits c.stand.stand)) in
        let names = fitted_names o m.adts types args are in
        let none = empties_name o (of_function m g).slots in
        elim (either (value.one o (Some p.frame.instance)) (among o (references_in args)) (omega (arith, l, names, none))) [
          | inl y ↦ omega (arith, y)
          | inr y ↦
              let z = slot_among p.frame.slots a o (subst (λ (v : core.Slot). 0 < core.slot_names v o) (sym s.holds)
              (subst (λ (vs : List Value). 0 < among o (references_in vs)) (sym values_are) y)) in
              omega (arith, z)
        ]

  -- ---- the frame

  module _ (k : Facts) (x : World) (j : ℕ) (q : Process)
      (s : Now m i p n f t fn into a here b pass g there k x j q (room m i p n f t fn into a here b pass g there).size) where
    abbrev row : Room
    row = room m i p n f t fn into a here b pass g there

    abbrev more : List Ty
    more = behind_args m i p n f t fn into a here b pass g there

    abbrev is_so : g.of.args ++ more ≡ types
    is_so = first_types m i p n f t fn into a here b pass g there

    abbrev together_now : IsTogether m k i x [] n f j p q s.on t fn a
    together_now = now_there m i p n f t fn into a here b pass g there k x j q row.size s

    abbrev source_now : Source m i p n f t fn into a here b pass g there k together_now.us together_now.values s.inner
    source_now = from m i p n f t fn into a here b pass g there k x j q row.size s

    longer : row.size ≤ (row_of m.adts types).size
    longer = subst (λ (ts : List Ty). row.size ≤ (row_of m.adts ts).size) is_so (longer_size m.adts g.of.args more)

    abbrev Stand_all : List Word → List Ty → List Value → Type 0
    Stand_all ws ts vs = AllStand m.adts k ws linkage_bytes nothing ts (rooms_of (rooms_in m.adts) ts) vs

    operands_stand : Stand_all s.others types (all_fitted m.adts types args)
    operands_stand =
        let c = source_now in
        let kind = kind_now m i p n f t fn into a here b pass g there k x j q row.size s in
        let laid = subst (λ (ts : List Ty). AllLaid m.adts ts (rooms_of (rooms_in m.adts) ts)) (sym is_so) s.called.words.laid in
        let old = subst (λ (ts : List Ty). Stand_all s.frame.words ts (all_fitted m.adts ts [])) (sym is_so) s.called.words.values in
        let all = passed m.adts k s.inner s.frame.words s.others row.size s.written
        (ranged_inner m i p n f t fn into a here b pass g there k x j q row.size s) s.called.words.kind.ranged kind.ranged
        0 linkage_bytes nothing together_now.us g.of.args more (rooms_of (rooms_in m.adts) together_now.us) together_now.values
        (all_fitted m.adts (g.of.args ++ more) []) refl refl (ap (λ (r : Room). r.size) c.same) c.stand.laid laid c.fits refl refl c.stand.stand old in
        subst (λ (ts : List Ty). Stand_all s.others ts (all_fitted m.adts ts args)) is_so
        (subst (λ (vs : List Value). Stand_all s.others (g.of.args ++ more) (all_fitted m.adts (g.of.args ++ more) vs))
        (values_are k x [] j q s.on together_now) all)

    abbrev pub frame_then : Frame
    frame_then = with_words s.frame s.others

    pub finished : Called m k x fn g callee frame_then
    finished =
        let kind = kind_now m i p n f t fn into a here b pass g there k x j q row.size s in
        let far = longer in
        let elsewhere : ElseAsWas s.frame.words s.others linkage_bytes (row_of m.adts types).size = record {
          each = λ l out. elim (low_or_high (4 * l) linkage_bytes) [
            | inl low ↦ s.written.words l (inl (omega (arith, low)))
            | inr high ↦ elim (low_or_high (4 * l) (linkage_bytes + (row_of m.adts types).size)) [
              | inl within ↦ absurd (out (high, within))
              | inr past ↦ s.written.words l (inr (omega (arith, past, far)))
            ]
          ];
        } in
        let after = slots_change.variables m.adts k x.heap s.frame.serial [] types (replicate (of_function m g).slots held.empty) zero_one.variables
        callee.variables zero_one.slots s.frame.words s.others s.called.words elsewhere kind operands_stand in
        record {
          there = s.called.there;
          code = refl;
          answer = s.called.answer;
          many = s.called.many;
          instance = s.called.instance;
          formed = s.called.formed;
          words = after.0;
          bare = λ l. ap (λ (o : ℕ → List ℕ). o l) after.1 ∙ s.called.bare l;
          fresh = s.called.fresh;
          spare = word_same s.frame.words s.others (spare_place m.adts types) (s.written.words (spare_place m.adts types / 4) (inr (omega (arith, far))))
              ∙ s.called.spare;
        }
