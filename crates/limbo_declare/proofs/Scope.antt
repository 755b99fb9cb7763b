-- A source declares one thing at most, and what is refused declares nothing.
use Rattle.std.proofs.Common.{◌≡◌, ◌≢◌, inl, inr, ◌++◌, ℕ, List, Option, None, Some, refl, sym, ap, subst, ◌∙◌}
use Rattle.std.specs.List.{Contains}
use Rattle.limbo_tree.specs.Decls.{Members}
use Rattle.limbo_declarations.specs.Names.{AreOnce as are_once}
use Rattle.limbo_declarations.specs.Rows.{Row, Module, rows_of_members}
use Rattle.limbo_top.specs.Tops.{Placed, Definition, declared, definitions, Alone}
use Rattle.limbo_top.specs.TopLevel.{row_names, IsTopLevel, DeclaresTwice, in_source, in_module, at_top}
use Rattle.limbo_top.proofs.TopLevels.{alone_only, declared_once, same_module, members_once, all_once}
use Rattle.limbo_entries.specs.Entries.{Entry, IsEntry, IsTable, IsMember, AreOnce}
use Rattle.limbo_entries.proofs.Tables as tables
use Rattle.limbo_defined.specs.Defined.{IsDeclared, IsDefined, AllDefined, AllKnown}
use Rattle.limbo_unknown.specs.Lacking.{HasUnknown}
use Rattle.limbo_constant_values.specs.Values.{AllHaveValues, AllInitial, IsNotConstant, no_value, initial}
use Rattle.limbo_declare.specs.declared.fault.NameFault.{NameFault}
use Rattle.limbo_declare.specs.declared.fault.NameFault.TheVariants as fault
use Rattle.limbo_declare.specs.Declares as told
use Rattle.limbo_declare.specs.Declares.{Parts, names_of, numbered, AreNumbered, Declares, Fails, FailsTwice, FailsUnknown, FailsConstant}

-- ---- the parts are determined

module _ (implements : List ℕ) (tops : List Placed) (rows : List Row) (top : IsTopLevel implements tops rows) (p q : Parts implements tops) where
  same_path : p.path ≡ q.path
  same_path =
      sym (same_module implements tops rows top p.path p.members p.is_module).0
      ∙ (same_module implements tops rows top q.path q.members q.is_module).0

  same_members : p.members ≡ q.members
  same_members =
      sym (same_module implements tops rows top p.path p.members p.is_module).1
      ∙ (same_module implements tops rows top q.path q.members q.is_module).1

  same_rows : rows_of_members p.path p.members ≡ rows_of_members q.path q.members
  same_rows = ap (λ (z : List ℕ). rows_of_members z p.members) same_path ∙ ap (λ (z : Members). rows_of_members q.path z) same_members

  same_alone : p.alone ≡ q.alone
  same_alone =
      alone_only (rows_of_members q.path q.members) (definitions tops) p.alone q.alone
      (subst (λ (z : List Row). Alone z (definitions tops) p.alone) same_rows p.are_alone) q.are_alone

  same_names : names_of p ≡ names_of q
  same_names =
      ap (λ (z : List Row). declared tops ++ z ++ p.alone) same_rows
      ∙ ap (λ (z : List Row). declared tops ++ rows_of_members q.path q.members ++ z) same_alone

  same_numbered : numbered p ≡ numbered q
  same_numbered = ap (λ (z : List Row). declared tops ++ z) same_alone

  -- so the declarations have one order, and the implemented module one number
  same_entries : (es fs : List Entry) (m n : ℕ) → AreNumbered p es m → AreNumbered q fs n → es ≡ fs
  same_entries es fs m n a b =
      tables.one (numbered q) es fs (subst (λ (z : List Row). IsTable z es) same_numbered a.table) b.table

  same_number : (es fs : List Entry) (m n : ℕ) → AreNumbered p es m → AreNumbered q fs n → m ≡ n
  same_number es fs m n a b =
      let s = same_entries es fs m n a b in
      let own : IsMember fs None implements m =
      record { entry = _; there = subst (λ (z : List Entry). IsEntry z m (record { within = None; row = record { path = p.path; name = implements; means = Module p.members } })) s a.is_module; stands = refl; named = refl } in
      let other : IsMember fs None implements n = record { entry = _; there = b.is_module; stands = refl; named = refl } in
      b.once None implements m n own other

pub one : (implements : List ℕ) (tops : List Placed) (es fs : List Entry) (m n : ℕ) → Declares implements tops es m → Declares implements tops fs n
    → (es ≡ fs) × (m ≡ n)
one implements tops es fs m n d e = (
  same_entries implements tops (names_of d.parts) d.top d.parts e.parts es fs m n d.numbers e.numbers,
  same_number implements tops (names_of d.parts) d.top d.parts e.parts es fs m n d.numbers e.numbers,
)

-- ---- what is refused

module _ (implements : List ℕ) (tops : List Placed) (es : List Entry) (m : ℕ) (d : Declares implements tops es m) where
  abbrev own : Parts implements tops
  own = d.parts

  is_same_table : (p : Parts implements tops) (fs : List Entry) (n : ℕ) → AreNumbered p fs n → (fs ≡ es) × (n ≡ m)
  is_same_table p fs n a = (
    same_entries implements tops (names_of own) d.top p own fs es n m a d.numbers,
    same_number implements tops (names_of own) d.top p own fs es n m a d.numbers,
  )

  no_declares_twice : DeclaresTwice implements tops → ⊥
  no_declares_twice (in_source f) = f (declared_once implements tops (names_of own) d.top)
  no_declares_twice (in_module path members h f) = f (members_once implements tops (names_of own) d.top path members h)
  no_declares_twice (at_top path members alone h a f) = f (all_once implements tops (names_of own) d.top path members alone h a)

  pub no_twice : FailsTwice implements tops → ⊥
  no_twice (told.at_top t) = no_declares_twice t
  no_twice (told.in_scope s c f) = f (d.once_inside s c)
  no_twice (told.inside p h) =
      tables.not_twice (numbered p) es
      (subst (λ (z : List Row). IsTable z es) (same_numbered implements tops (names_of own) d.top own p) d.numbers.table) d.numbers.once h
  no_twice (told.defined f) = f d.defined_once

  all_defined : (p : Parts implements tops) → AllDefined (rows_of_members p.path p.members) (names_of p) (definitions tops)
  all_defined p =
      subst (λ (z : List Row). AllDefined z (names_of p) (definitions tops)) (same_rows implements tops (names_of own) d.top own p)
      (subst (λ (z : List Row). AllDefined (rows_of_members own.path own.members) z (definitions tops))
      (same_names implements tops (names_of own) d.top own p) d.defined)

  all_known : (p : Parts implements tops) → AllKnown (rows_of_members p.path p.members) (names_of p) (definitions tops)
  all_known p =
      subst (λ (z : List Row). AllKnown z (names_of p) (definitions tops)) (same_rows implements tops (names_of own) d.top own p)
      (subst (λ (z : List Row). AllKnown (rows_of_members own.path own.members) z (definitions tops))
      (same_names implements tops (names_of own) d.top own p) d.known)

  pub no_unknown : FailsUnknown implements tops → ⊥
  no_unknown (told.undefined p path name part i f) = f ((all_defined p).named path name part i)
  no_unknown (told.nested p path name n) = (all_defined p).nested path name n
  no_unknown (told.undeclared p x function c e f) =
      let is : IsDefined (definitions tops) x.name (Some function) = record { definition = x; there = c; named = refl; of_part = e } in
      let k = all_known p x.name function is in
      f k.0 k.1
  no_unknown (told.not_there p fs n a u) =
      let s = is_same_table p fs n a in
      d.names (subst (λ (z : List Entry). HasUnknown z m) s.0 (subst (λ (z : ℕ). HasUnknown fs z) s.1 u))

  no_bad : (k : ℕ) → IsNotConstant es m k → ⊥
  no_bad k (no_value e expr iota i c f) = let v = d.have_values k e expr iota i c in f v.0 v.1
  no_bad k (initial e expr i v other f) = elim (d.initial k e expr i v) [
    | inl same ↦ other same
    | inr comes ↦ f comes.0 comes.1
  ]

  pub no_constant : FailsConstant implements tops → ⊥
  no_constant f =
      let s = is_same_table f.parts f.entries f.implemented f.numbers in
      no_bad f.number
      (subst (λ (z : List Entry). IsNotConstant z m f.number) s.0
      (subst (λ (z : ℕ). IsNotConstant f.entries z f.number) s.1 f.bad))

pub nothing : (implements : List ℕ) (tops : List Placed) (e : NameFault) → e ≢ fault.NoMemory → Fails implements tops e
    → (es : List Entry) (m : ℕ) → Declares implements tops es m → ⊥
nothing implements tops fault.NoMemory other f es m d = other refl
nothing implements tops (fault.Twice path at) other f es m d = no_twice implements tops es m d f
nothing implements tops (fault.Unknown path at) other f es m d = no_unknown implements tops es m d f
nothing implements tops fault.NoModule other f es m d = f d.parts.path d.parts.members d.parts.is_module
nothing implements tops (fault.NotConstant path at) other f es m d = no_constant implements tops es m d f
