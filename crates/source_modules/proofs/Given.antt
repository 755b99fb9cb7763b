-- What is told of a source, from what is told of its declarations.
use Rattle.std.proofs.Common.{ℕ, List, Bool, true, false, Result, Ok, Err, IfOk, IfErr, sym, subst}
use Rattle.inf_ports.specs.Outside.{Told}
use Rattle.limbo_tree.specs.Sources.{Source}
use Rattle.limbo_top.specs.Tops.{Placed}
use Rattle.limbo_entries.specs.Entries.{Entry}
use Rattle.limbo_declare.specs.Declares.{Declares}
use Rattle.limbo_typed.specs.Typed.{Module}
use Rattle.limbo_typed.specs.View.{view_module}
use Rattle.source_names.specs.Declares.{HasRow}
use Rattle.source_modules.specs.Checked.{IsChecked}
use Rattle.source_modules.specs.Failing.{Fails, FailsBy, by_types}
use Rattle.source_modules.specs.Given.{Begins, IsSort, Gives, GivesModule, FailsNamed}
use Rattle.source_modules.specs.declared.fault.ModuleFault.{ModuleFault}
use Rattle.source_modules.specs.declared.fault.ModuleFault.TheVariants.{NoMemory, Refused}
use Rattle.source_modules.specs.declared.checking.Checked as code_checked

pub if_ok : {A E : Type 0} → (r : Result A E) (P Q : A → Type 0) → ((a : A) → P a → Q a) → IfOk r P → IfOk r Q
if_ok (Ok a) P Q f h = f a h
if_ok (Err e) P Q f h = tt

pub if_err : {A E : Type 0} → (r : Result A E) (P Q : E → Type 0) → ((e : E) → P e → Q e) → IfErr r P → IfErr r Q
if_err (Ok a) P Q f h = tt
if_err (Err e) P Q f h = f e h

module _ (told : Told) (path : List ℕ) (tree : Source) (name : List ℕ) (row : List Placed) (es : List Entry) (m : ℕ)
    (has : HasRow told path tree name row) (declares : Declares name row es m) where
  sort_of : (x : Module) → IsChecked told path tree es m x → (b : Bool) → Begins es m x b → IsSort told path tree x b
  sort_of x is true h = record { entries = es; implemented = m; is = is; begins = h }
  sort_of x is false h = record { entries = es; implemented = m; is = is; begins_not = h }

  pub gives : (c : code_checked.Checked) → GivesModule name row es m c → Gives told path tree c
  gives c g =
      let x = view_module c.module.value in
      let is : IsChecked told path tree es m x = record { name = name; row = row; has = has; declares = declares; is = g.is } in
      record { sort = sort_of x is c.begins g.begins }

  pub fails_by : (f : ModuleFault) → FailsNamed name row es m f → FailsBy told path tree f
  fails_by NoMemory h = tt
  fails_by (Refused n file at) h =
      subst (λ (z : ℕ). Fails told path tree z) (sym h.2) (by_types name row es m h.0 has declares h.1)
