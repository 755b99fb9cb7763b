-- What is called, once it is known what stands before `(`.
use Rattle.std.proofs.Common.{◌≡◌, sym, subst, ℕ, List, Some}
use Rattle.limbo_tree.specs.Exprs as tree
use Rattle.limbo_typed.specs.declared.print.Printed.{Printed}
use Rattle.limbo_typed.specs.Typed.{Expr, Exprs}
use Rattle.limbo_defining.specs.limbo_context.Context.{Context, Body}
use Rattle.limbo_applying.specs.limbo_calls.Prints.{Prints, Output}
use Rattle.limbo_applying.specs.limbo_things.Things.{Thing, APrint}
use Rattle.limbo_applying.specs.Applying.{Applies}
use Rattle.limbo_typing.specs.Typing.{format_in, OutputIs, Denotes, HaveValues}
use Rattle.limbo_typing.specs.Failing.{IsNoPrint}
use Rattle.limbo_typing.proofs.Forms.{Called, a_call, a_print}

-- A print's arguments.
pub record Printing (c : Context) (b : Body) (es : tree.Exprs) (which : Printed) (instance z : Expr) (d : Body) : Type 0 where
  pub text : List ℕ
  pub others : tree.Exprs
  pub values : Exprs
  pub printed : Exprs
  pub output : Output
  pub format : format_in which es ≡ Some (text, others)
  pub have : HaveValues c b others values d
  pub is : OutputIs which values output printed
  pub prints : Prints c.fd output instance text printed z

abbrev PrintingOf : Context → Body → tree.Exprs → Thing → Expr → Body → Type 0
PrintingOf c b es (APrint p m) z d = Printing c b es p m z d
PrintingOf c b es _ z d = ⊥

module _ (c : Context) where
  pub no_print : (t : Thing) (xs : Exprs) (z : Expr) → Applies c t xs z → IsNoPrint t
  no_print (APrint p m) xs z h = absurd h
  no_print _ xs z h = tt

  module _ (b : Body) (f : tree.Expr) (es : tree.Exprs) (z : Expr) (d : Body) where
    pub called_thing : Called c b f es z d → (b1 : Body) × (t : Thing) × Denotes c b f t b1
    called_thing (a_call r) = (r.b1, r.thing, r.denotes)
    called_thing (a_print r) = (r.b1, APrint r.which r.instance, r.denotes)

    -- Where it is one thing at most.
    module _ (b' : Body) where
      pub call_with : (t : Thing) → ((b1 : Body) (s : Thing) → Denotes c b f s b1 → (t ≡ s) × (b' ≡ b1)) → IsNoPrint t
          → Called c b f es z d → (ys : Exprs) × HaveValues c b' es ys d × Applies c t ys z
      call_with t same plain (a_call r) =
          let p = same r.b1 r.thing r.denotes in (
            r.values,
            subst (λ (v : Body). HaveValues c v es r.values d) (sym p.1) r.have,
            subst (λ (v : Thing). Applies c v r.values z) (sym p.0) r.applies,
          )
      call_with t same plain (a_print r) =
          let p = same r.b1 (APrint r.which r.instance) r.denotes in absurd (subst (λ (v : Thing). IsNoPrint v) p.0 plain)

      pub print_with : (which : Printed) (m : Expr) → ((b1 : Body) (s : Thing) → Denotes c b f s b1 → (APrint which m ≡ s) × (b' ≡ b1))
          → Called c b f es z d → Printing c b' es which m z d
      print_with which m same (a_call r) =
          let p = same r.b1 r.thing r.denotes in absurd (subst (λ (v : Thing). Applies c v r.values z) (sym p.0) r.applies)
      print_with which m same (a_print r) =
          let p = same r.b1 (APrint r.which r.instance) r.denotes in
          let x : Printing c r.b1 es r.which r.instance z d = record {
            text = r.text;
            others = r.others;
            values = r.values;
            printed = r.printed;
            output = r.output;
            format = r.format;
            have = r.have;
            is = r.is;
            prints = r.prints;
          } in
          let y : Printing c b' es r.which r.instance z d =
          subst (λ (v : Body). Printing c v es r.which r.instance z d) (sym p.1) x in
          subst (λ (v : Thing). PrintingOf c b' es v z d) (sym p.0) y
