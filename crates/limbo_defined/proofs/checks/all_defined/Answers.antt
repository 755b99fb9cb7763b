use Rattle.std.proofs.Common.{◌≡◌, ℕ, List, Some, None, refl, sym, ap, subst, ◌∙◌}
use Rattle.std.specs.List.{Contains}
use Rattle.std.proofs.lemmas.Result.{err_from_is_err_and}
use Rattle.std.specs.BTreeMap.{BTreeMap}
use Rattle.limbo_declarations.specs.declared.row.Row as code_row
use Rattle.limbo_declarations.specs.Rows.{Row}
use Rattle.limbo_declarations.specs.View.{rows_of}
use Rattle.limbo_top.specs.declared.tops.Definition as code_definition
use Rattle.limbo_top.specs.Tops.{Definition}
use Rattle.limbo_top.specs.View.{view_definition, definitions_of}
use Rattle.limbo_defined.specs.declared.wants.Wanted as code_wanted
use Rattle.limbo_defined.specs.Defined.{IsNested, AllDefined}
use Rattle.limbo_defined.specs.Labels.{label, labels, wanted_labels}
use Rattle.limbo_defined.specs.Places.{Place, places, NamesNested}
use Rattle.limbo_defined.specs.Refusals.{IsRefused, IsLacking, nowhere, no_way}
use Rattle.limbo_defined.specs.Sets.{get_label, IsSetOf}
use Rattle.limbo_defined.specs.Wanted.{Wanted, wanted_in}
use Rattle.limbo_defined.specs.View.{view_wanted, wanted_of, place_of, places_of}
use Rattle.limbo_defined.proofs.Declaring.{wanted_declared, declared_wanted}
use Rattle.limbo_defined.proofs.Checking.{contains_map, is_defined, not_defined, not_declared, all_known}
use Rattle.limbo_defined.proofs.checks.all_defined.Goals as goal

pub returns-in_err-defined-clause-refused : goal.returns-in_err-defined-clause-refused
returns-in_err-defined-clause-refused c =
    let members = c.args.members.now.rows.items in
    let rows = c.args.rows.now.rows.items in
    let k : IsRefused members rows c.args.definitions.now c.in_err-defined.field-0.0 = c.in_err-defined.ensures.refused members rows in
    let p = err_from_is_err_and c.from_residual.result c.from_residual.ensures.1 in
    rw (p.1, p.2) k

pub returns-in-Some-clause-refused : goal.returns-in-Some-clause-refused
returns-in-Some-clause-refused c =
    let e = c.deref.ensures.value in
    let n = c.in-Some.name.now in
    no_way c.in-Some.path n
    (subst (λ (z : List code_row.Row). NamesNested n c.in-Some.path z) e c.in-Some.ensures.placed)
    (subst (λ (z : List code_row.Row). IsNested (rows_of z) c.in-Some.path.now n.text) e c.in-Some.ensures.some)

-- the functions that must be defined, as they are handed on
wants_are :
    (ws ts : List code_wanted.Wanted) (m n r q : List code_row.Row) → wanted_of ws ≡ wanted_in (rows_of m) (rows_of r) → ts ≡ ws → m ≡ n
    → r ≡ q
    → wanted_of ts ≡ wanted_in (rows_of n) (rows_of q)
wants_are ws ts m n r q e t a b =
    ap wanted_of t ∙ e ∙ ap (λ (z : List code_row.Row). wanted_in (rows_of z) (rows_of r)) a
    ∙ ap (λ (z : List code_row.Row). wanted_in (rows_of n) (rows_of z)) b

set_is :
    (set : BTreeMap (List ℕ) ℕ) (ls ks : List (List ℕ)) (ts ws : List Wanted) → IsSetOf set ls → ls ≡ ks → ks ≡ wanted_labels ts → ts ≡ ws
    → IsSetOf set (wanted_labels ws)
set_is set ls ks ts ws h e f g = subst (λ (z : List (List ℕ)). IsSetOf set z) (e ∙ f ∙ ap wanted_labels g) h

places_are :
    (ws ts : List code_wanted.Wanted) (m n r q : List code_row.Row) → places_of ws ≡ places m r → ts ≡ ws → m ≡ n → r ≡ q
    → places_of ts ≡ places n q
places_are ws ts m n r q e t a b =
    ap places_of t ∙ e ∙ ap (λ (z : List code_row.Row). places z r) a ∙ ap (λ (z : List code_row.Row). places n z) b

lacks :
    (set : BTreeMap (List ℕ) ℕ) (members rows : List code_row.Row) (ds : List Definition) (ws : List code_wanted.Wanted)
    (w : code_wanted.Wanted)
    → IsSetOf set (labels ds) → wanted_of ws ≡ wanted_in (rows_of members) (rows_of rows) → places_of ws ≡ places members rows
    → Contains ws w
    → get_label set (label (view_wanted w).name (view_wanted w).part) ≡ None → IsLacking members rows ds w.path.now w.at
lacks set members rows ds ws w h e p c n =
    let v = view_wanted w in
    nowhere (place_of w) (subst (λ (z : List Place). Contains z (place_of w)) p (contains_map place_of ws w c))
    (wanted_declared (rows_of members) (rows_of rows) v (subst (λ (z : List Wanted). Contains z v) e (contains_map view_wanted ws w c)))
    (not_defined set ds v.name v.part h n)

has_all :
    (set : BTreeMap (List ℕ) ℕ) (members rows : List Row) (ds : List Definition) (ws : List Wanted) → IsSetOf set (labels ds)
    → ws ≡ wanted_in members rows
    → ((w : Wanted) → Contains ws w → get_label set (label w.name w.part) ≡ None → ⊥) → ((path name : List ℕ) → IsNested rows path name → ⊥)
    → AllDefined members rows ds
has_all set members rows ds ws h e f g = record {
  named = λ path name part d.
      let w : Wanted = record { path = path; name = name; part = part } in
      is_defined set ds name part h (f w (subst (λ (z : List Wanted). Contains z w) (sym e)
      (declared_wanted members rows path name part d)));
  nested = g;
}

pub returns-in-Some-2-clause-refused : goal.returns-in-Some-2-clause-refused
returns-in-Some-2-clause-refused c =
    let members = c.args.members.now.rows.items in
    let rows = c.args.rows.now.rows.items in
    let ws = c.in_ok-wanted.wanted.items in
    let ts = c.deref-4.result.now in
    let w = c.in-Some-2.lacking in
    let e = wants_are ws ts c.deref-2.result.now members c.deref-3.result.now rows c.in_ok-wanted.ensures.wanted c.deref-4.ensures.value
    c.deref-2.ensures.value c.deref-3.ensures.value in
    let p = places_are ws ts c.deref-2.result.now members c.deref-3.result.now rows c.in_ok-wanted.ensures.places c.deref-4.ensures.value
    c.deref-2.ensures.value c.deref-3.ensures.value in
    let h : Contains ts w × (get_label c.in_ok-defined.defined (label (view_wanted w).name (view_wanted w).part) ≡ None) = rw
    c.in-Some-2.is at c.in_ok-lacking.ensures.some in
    lacks c.in_ok-defined.defined members rows (definitions_of c.args.definitions.now) ts w c.in_ok-defined.ensures.set e p h.0 h.1

pub returns-in-Some-3-clause-refused : goal.returns-in-Some-3-clause-refused
returns-in-Some-3-clause-refused c =
    let members = rows_of c.args.members.now.rows.items in
    let rows = rows_of c.args.rows.now.rows.items in
    let d = c.in-Some-3.d in
    let e = wants_are c.in_ok-wanted.wanted.items c.deref-5.result.now c.deref-2.result.now c.args.members.now.rows.items
    c.deref-3.result.now c.args.rows.now.rows.items c.in_ok-wanted.ensures.wanted c.deref-5.ensures.value c.deref-2.ensures.value
    c.deref-3.ensures.value in
    let s = set_is c.in_ok-declared.declared c.deref-6.result.now c.in_ok-labels.labels.items (wanted_of c.deref-5.result.now)
    (wanted_in members rows) c.in_ok-declared.ensures c.deref-6.ensures.value c.in_ok-labels.ensures e in
    let h : (f : List ℕ) × Contains c.args.definitions.now d × ((view_definition d).part ≡ Some f)
    × (get_label c.in_ok-declared.declared (label (view_definition d).name (Some f)) ≡ None) = rw c.in-Some-3.is at
    c.in_ok-d.ensures.some in
    record {
      definition = d;
      there = h.1;
      function = h.0;
      of_adt = h.2;
      undeclared = λ source. not_declared c.in_ok-declared.declared members rows source (view_definition d).name (Some h.0) s h.3;
      stands = record { in_text = refl; place = refl };
    }

pub returns-clause-defined : goal.returns-clause-defined
returns-clause-defined c =
    let members = rows_of c.args.members.now.rows.items in
    let rows = rows_of c.args.rows.now.rows.items in
    let ds = definitions_of c.args.definitions.now in
    let e = wants_are c.in_ok-wanted.wanted.items c.deref-4.result.now c.deref-2.result.now c.args.members.now.rows.items
    c.deref-3.result.now c.args.rows.now.rows.items c.in_ok-wanted.ensures.wanted c.deref-4.ensures.value c.deref-2.ensures.value
    c.deref-3.ensures.value in
    let h : (w : Wanted) → Contains (wanted_of c.deref-4.result.now) w → get_label c.in_ok-defined.defined (label w.name w.part) ≡ None
    → ⊥ = rw c.in_default-2.is at c.in_ok-lacking.ensures.none in
    let g : (path name : List ℕ) → IsNested rows path name → ⊥ = λ path name n. c.in_default.ensures.none path name
    (subst (λ (z : List Row). IsNested z path name) (sym (ap rows_of c.deref.ensures.value)) n) in
    has_all c.in_ok-defined.defined members rows ds (wanted_of c.deref-4.result.now) c.in_ok-defined.ensures.set e h g

pub returns-clause-known : goal.returns-clause-known
returns-clause-known c =
    let members = rows_of c.args.members.now.rows.items in
    let rows = rows_of c.args.rows.now.rows.items in
    let e = wants_are c.in_ok-wanted.wanted.items c.deref-5.result.now c.deref-2.result.now c.args.members.now.rows.items
    c.deref-3.result.now c.args.rows.now.rows.items c.in_ok-wanted.ensures.wanted c.deref-5.ensures.value c.deref-2.ensures.value
    c.deref-3.ensures.value in
    let s = set_is c.in_ok-declared.declared c.deref-6.result.now c.in_ok-labels.labels.items (wanted_of c.deref-5.result.now)
    (wanted_in members rows) c.in_ok-declared.ensures c.deref-6.ensures.value c.in_ok-labels.ensures e in
    let h : (d : code_definition.Definition) (f : List ℕ) → Contains c.args.definitions.now d → (view_definition d).part ≡ Some f
    → get_label c.in_ok-declared.declared (label (view_definition d).name (Some f)) ≡ None
    → ⊥ = rw c.in_default-3.is at c.in_ok-d.ensures.none in
    all_known c.in_ok-declared.declared members rows c.args.definitions.now s h
