-- Members that are added to an adt leave the modules as they are.
use Rattle.std.proofs.Common.{◌≡◌, ◌∷◌, [], ℕ, suc, Bool, List, length, ap, ◌∙◌}
use Rattle.std.specs.Prelude.{Result, Ok, Err, OnOk}
use Rattle.limbo_tree.specs.Exprs as tree
use Rattle.limbo_tree.specs.Decls.{Member, VarMember, FnMember, ConMember, TypeMember, AdtMember, Members, NoMembers, MoreMembers}
use Rattle.limbo_layout.specs.Adts.{Def}
use Rattle.limbo_context.specs.Context.{Context, Valued}
use Rattle.limbo_locals.specs.limbo_local.Points.{Point}
use Rattle.limbo_locals.specs.limbo_local.Local.{AreConstants}
use Rattle.limbo_locals.specs.limbo_local.Members.{Inside, showing_adt, variants_in, open_adt, AddsToAdt, AllAddToAdt}
use Rattle.limbo_members.specs.Standing.{with_adts_in}

-- Constants are found where nothing is declared yet.
pub constants_context : (e : tree.Expr) (k : ℕ) (ns : List (List ℕ)) (vs : List Valued) (p q : Point) → AreConstants e k ns vs p q
    → q.context ≡ p.context
constants_context e k [] [] p q h = ap (λ (z : Point). z.context) h
constants_context e k [] (v ∷ vs) p q h = absurd h
constants_context e k (n ∷ ns) [] p q h = absurd h
constants_context e k (n ∷ ns) (v ∷ vs) p q h =
    constants_context e (suc k) ns vs h.0 q h.2 ∙ ap (λ (z : Point). z.context) h.1.goes_on

pub record SameModules (p q : Point) : Type 0 where
  pub exports : q.context.exports ≡ p.context.exports
  pub interfaces : q.context.interfaces ≡ p.context.interfaces

unchanged : (p q : Point) → q ≡ p → SameModules p q
unchanged p q is = record {
  exports = ap (λ (z : Point). z.context.exports) is;
  interfaces = ap (λ (z : Point). z.context.interfaces) is;
}

mutual
  pub member_leaves : (m : Bool) (x : Member) (p : Point) (g : Inside) (q : Point) → AddsToAdt m x p g q → SameModules p q
  member_leaves m (VarMember ns t) p g q h = unchanged p q h.3
  member_leaves m (FnMember ns f) p g q h = unchanged p q h.4
  member_leaves m (ConMember ns e) p g q h =
      let c = constants_context e 0 ns h.0 p h.1 h.2 in
      record {
        exports = ap (λ (z : Point). z.context.exports) h.4 ∙ ap (λ (z : Context). z.exports) c;
        interfaces = ap (λ (z : Point). z.context.interfaces) h.4 ∙ ap (λ (z : Context). z.interfaces) c;
      }
  member_leaves m (TypeMember ns t) p g q h = record {
    exports = ap (λ (z : Point). z.context.exports) h.3;
    interfaces = ap (λ (z : Point). z.context.interfaces) h.3;
  }
  member_leaves m (AdtMember n ms pick) p g q h =
      let s = members_leave m (length p.context.adts) ms (open_adt n (variants_in pick) p) h.0 h.2 h.3 in
      record {
        exports = ap (λ (z : Point). z.context.exports) h.6 ∙ s.exports;
        interfaces = ap (λ (z : Point). z.context.interfaces) h.6 ∙ s.interfaces;
      }

  pub members_leave : (m : Bool) (a : ℕ) (ms : Members) (p : Point) (g : Inside) (q : Point) → AllAddToAdt m a ms p g q → SameModules p q
  members_leave m a NoMembers p g q h = unchanged p q h.1
  members_leave m a (MoreMembers x xs) p g q h =
      let s = member_leaves m x p h.0 h.2 h.3 in
      let t = members_leave m a xs (showing_adt a h.2) h.1 q h.4 in
      record {
        exports = t.exports ∙ s.exports;
        interfaces = t.interfaces ∙ s.interfaces;
      }

-- ---- adts that are known

pub on_one : {T E : Type 0} (r : Result T E) {A B : Type 0} → (A → B) → OnOk r A → OnOk r B
on_one (Ok x) f a = f a
on_one (Err e) f a = tt

module _ (first : ℕ) (ds : List Def) (c d e : Context) (made : e ≡ with_adts_in first ds d) where
  pub same_exports : d.exports ≡ c.exports → e.exports ≡ c.exports
  same_exports h = ap (λ (z : Context). z.exports) made ∙ h

  pub same_interfaces : d.interfaces ≡ c.interfaces → e.interfaces ≡ c.interfaces
  same_interfaces h = ap (λ (z : Context). z.interfaces) made ∙ h
