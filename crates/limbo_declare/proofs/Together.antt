-- What a source declares, by what its parts declare.
use Rattle.std.proofs.Common.{◌++◌, ℕ, List, None, Some, refl, ap, subst, ◌∙◌}
use Rattle.std.specs.List.{Contains}
use Rattle.std.proofs.lemmas.List.Elements.{Contains-append_left}
use Rattle.std.proofs.lemmas.Option.{slice_get-get_or}
use Rattle.limbo_tree.specs.Decls.{Members}
use Rattle.limbo_declarations.specs.Rows.{Row, Module, rows_of_members}
use Rattle.limbo_declarations.specs.View.{rows_of}
use Rattle.limbo_top.specs.Tops.{Placed, Definition, declared, DeclaresModule}
use Rattle.limbo_top.specs.TopLevel.{IsTopLevel, HasNoModule}
use Rattle.limbo_top.specs.Parts.{AreParts}
use Rattle.limbo_top.specs.View.{definitions_of}
use Rattle.limbo_top.specs.declared.naming.TopLevel as code
use Rattle.limbo_entries.specs.Entries.{Entry, IsEntry, IsTable, IsMember, AreOnce, HasNone}
use Rattle.limbo_defined.specs.Defined.{AllDefined, AllKnown, AreDefinedOnce}
use Rattle.limbo_unknown.specs.Lacking.{HasUnknown}
use Rattle.limbo_constant_values.specs.Values.{AllHaveValues, AllInitial}
use Rattle.limbo_declare.specs.declared.fault.NameFault.{NameFault}
use Rattle.limbo_declare.specs.declared.fault.NameFault.TheVariants as fault
use Rattle.limbo_declare.specs.Declares.{Parts, names_of, numbered, AreNumbered, AreOnceInside, Declares, Fails, FailsTable, not_there}
use Rattle.limbo_declare.proofs.Failing.{parts_of, rows_numbered}

-- a row of the top level has a number
numbered_row : (top : List Row) (es : List Entry) → IsTable top es → (r : Row) → Contains top r → (k : ℕ) × IsEntry es k (record { within = None; row = r })
numbered_row top es t r c = (c.0, t.first c.0 r (slice_get-get_or top c.0 r c.1 ∙ ap Some c.2))

abbrev module_row : (path name : List ℕ) → Members → Row
module_row path name ms = record { path = path; name = name; means = Module ms }

module _ (implements : List ℕ) (tops : List Placed) (t : code.TopLevel) (a : AreParts implements tops t) (es : List Entry)
    (table : IsTable (rows_of (t.declared.rows.items ++ t.alone.items)) es) where
  abbrev parts : Parts implements tops
  parts = parts_of implements tops t a

  pub table_is : IsTable (numbered parts) es
  table_is = subst (λ (z : List Row). IsTable z es) (rows_numbered implements tops t a) table

  at_number : (path : List ℕ) (ms : Members) → DeclaresModule (declared tops) implements path ms
      → (k : ℕ) × IsEntry es k (record { within = None; row = module_row path implements ms })
  at_number path ms d =
      numbered_row (numbered parts) es table_is (module_row path implements ms)
      (Contains-append_left (declared tops) (rows_of t.alone.items) (module_row path implements ms) d)

  member_at : (path : List ℕ) (ms : Members) (k : ℕ) → IsEntry es k (record { within = None; row = module_row path implements ms }) → IsMember es None implements k
  member_at path ms k e = record { entry = record { within = None; row = module_row path implements ms }; there = e; stands = refl; named = refl }

  -- no module where the name isn't there
  pub no_module : HasNone es None implements → HasNoModule implements tops
  no_module f path ms d = let k = at_number path ms d in f k.0 (member_at path ms k.0 k.1)

  module _ (m : ℕ) (once : AreOnce es) (found : IsMember es None implements m) where
    module_there : IsEntry es m (record { within = None; row = module_row a.path implements a.members })
    module_there =
        let k = at_number a.path a.members a.is_module in
        subst (λ (z : ℕ). IsEntry es z (record { within = None; row = module_row a.path implements a.members }))
        (once None implements k.0 m (member_at a.path a.members k.0 k.1) found) k.1

    numbers : AreNumbered parts es m
    numbers = record { table = table_is; once = once; is_module = module_there }

    pub fails_table : (e : NameFault) → FailsTable es m e → Fails implements tops e
    fails_table fault.NoMemory f = tt
    fails_table (fault.Twice path at) f = absurd f
    fails_table (fault.Unknown path at) f = not_there parts es m numbers f
    fails_table fault.NoModule f = absurd f
    fails_table (fault.NotConstant path at) f = record { parts = parts; entries = es; implemented = m; number = f.0; numbers = numbers; bad = f.1 }

    pub declares : IsTopLevel implements tops (rows_of t.names.rows.items) → AreOnceInside tops
        → AllDefined (rows_of t.members.rows.items) (rows_of t.names.rows.items) (definitions_of t.definitions.items)
        → AllKnown (rows_of t.members.rows.items) (rows_of t.names.rows.items) (definitions_of t.definitions.items)
        → AreDefinedOnce (definitions_of t.definitions.items) → (HasUnknown es m → ⊥) → AllHaveValues es m → AllInitial es m
        → Declares implements tops es m
    declares top inside defined known defined_once names values initial = record {
      parts = parts;
      top = subst (λ (z : List Row). IsTopLevel implements tops z) a.names_are top;
      once_inside = inside;
      numbers = numbers;
      defined =
          subst (λ (z : List Definition). AllDefined (rows_of_members a.path a.members) (names_of parts) z) a.definitions_are
          (subst (λ (z : List Row). AllDefined z (names_of parts) (definitions_of t.definitions.items)) a.members_are
          (subst (λ (z : List Row). AllDefined (rows_of t.members.rows.items) z (definitions_of t.definitions.items)) a.names_are defined));
      known =
          subst (λ (z : List Definition). AllKnown (rows_of_members a.path a.members) (names_of parts) z) a.definitions_are
          (subst (λ (z : List Row). AllKnown z (names_of parts) (definitions_of t.definitions.items)) a.members_are
          (subst (λ (z : List Row). AllKnown (rows_of t.members.rows.items) z (definitions_of t.definitions.items)) a.names_are known));
      defined_once = subst AreDefinedOnce a.definitions_are defined_once;
      names = names;
      have_values = values;
      initial = initial;
    }
