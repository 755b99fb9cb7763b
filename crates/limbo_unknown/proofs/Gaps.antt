-- Names of which one isn't there.
use Rattle.std.proofs.Common.{◌≡◌, inl, inr, ℕ, List, [], ◌∷◌, ◌++◌, refl, sym, subst, arith}
use Rattle.std.proofs.Common.{Option, None, Some, IfSome, IfNone, Result, Ok, Err, IfOk}
use Rattle.std.specs.List.{Contains}
use Rattle.std.proofs.lemmas.List.Elements.{Contains-append_left, Contains-append_right, Contains-append_cases}
use Rattle.std.proofs.lemmas.List.Elements.{Contains-push, Contains-push_cases}
use Rattle.inf_text.specs.declared.span.Span.{Span}
use Rattle.limbo_entries.specs.View.{entries_of}
use Rattle.limbo_naming.specs.Qualified.{Qualified}
use Rattle.limbo_naming.specs.Naming.{Lacks}
use Rattle.limbo_naming.specs.Told.{TellsOf, Knows}
use Rattle.limbo_naming.specs.declared.naming.Named.{Named}
use Rattle.limbo_naming.specs.declared.naming.Named.TheVariants as named
use Rattle.limbo_naming.specs.declared.naming.Naming.{Naming}
use Rattle.limbo_naming.proofs.Unique.{lacks_none}
use Rattle.limbo_unknown.specs.Lacking.{LacksOneOf, IsTold}

module _ (n : Naming) (scope : Option ℕ) where
  none_among : (q : Qualified) → Contains [] q → ⊥
  none_among q c = let h = c.1 in omega arith

  pub nothing : LacksOneOf n scope [] → ⊥
  nothing l = none_among l.name l.among

  pub told_nothing : (xs : List Qualified) → xs ≡ [] → LacksOneOf n scope xs → ⊥
  told_nothing xs e l = nothing (subst (λ (z : List Qualified). LacksOneOf n scope z) e l)

  -- ---- one name

  pub one : (q : Qualified) (found : Named) → found ≡ named.Unknown → TellsOf n scope q found → LacksOneOf n scope (q ∷ [])
  one q (named.Found r) e t = absurd cc
  one q named.Unknown e t = record { name = q; among = Contains-push [] q; lacks = t }
  one q named.Nothing e t = absurd cc

  lacks_only : (q : Qualified) → LacksOneOf n scope (q ∷ []) → Lacks (entries_of n.table.now.entries.items) n.implemented scope q
  lacks_only q l = elim (Contains-push_cases [] q l.name l.among) [
    | inl c ↦ absurd (none_among l.name c)
    | inr e ↦ subst (λ (x : Qualified). Lacks (entries_of n.table.now.entries.items) n.implemented scope x) (sym e) l.lacks
  ]

  pub there :
      (q : Qualified) (found : Named) → Knows n → (found ≡ named.Unknown → ⊥) → TellsOf n scope q found → LacksOneOf n scope (q ∷ []) → ⊥
  there q (named.Found r) k e t l =
      lacks_none (entries_of n.table.now.entries.items) n.implemented k.sight.once scope q r (lacks_only q l) t
  there q named.Unknown k e t l = e refl
  there q named.Nothing k e t l = t.0 (lacks_only q l)

  pub told_one :
      (q : Qualified) (found : Named) (r : Option Span) → Knows n → TellsOf n scope q found → IfSome r (λ _. found ≡ named.Unknown)
      → IfNone r (found ≡ named.Unknown → ⊥) → IsTold n scope (q ∷ []) r
  told_one q found None k t some none = there q found k none t
  told_one q found (Some at) k t some none = one q found some t

  -- ---- several

  pub front : (xs ys : List Qualified) → LacksOneOf n scope xs → LacksOneOf n scope (xs ++ ys)
  front xs ys l = record { name = l.name; among = Contains-append_left xs ys l.name l.among; lacks = l.lacks }

  pub behind : (xs ys : List Qualified) → LacksOneOf n scope ys → LacksOneOf n scope (xs ++ ys)
  behind xs ys l = record { name = l.name; among = Contains-append_right xs ys l.name l.among; lacks = l.lacks }

  pub not_front : (xs ys : List Qualified) → (LacksOneOf n scope xs → ⊥) → LacksOneOf n scope (xs ++ ys) → LacksOneOf n scope ys
  not_front xs ys never l = elim (Contains-append_cases xs ys l.name l.among) [
    | inl c ↦ absurd (never (record { name = l.name; among = c; lacks = l.lacks }))
    | inr c ↦ record { name = l.name; among = c; lacks = l.lacks }
  ]

  pub told_behind :
      (xs ys : List Qualified) (r : Option Span) → (LacksOneOf n scope xs → ⊥) → IsTold n scope ys r → IsTold n scope (xs ++ ys) r
  told_behind xs ys None never t = λ l. t (not_front xs ys never l)
  told_behind xs ys (Some at) never t = behind xs ys t

  pub told_later :
      {E : Type 0} (xs ys : List Qualified) (r : Result (Option Span) E) → (LacksOneOf n scope xs → ⊥) → IfOk r (IsTold n scope ys)
      → IfOk r (IsTold n scope (xs ++ ys))
  told_later xs ys (Ok found) never t = told_behind xs ys found never t
  told_later xs ys (Err e) never t = tt

  -- ---- one after the other

  -- one of what is left isn't there exactly where one of all isn't
  abbrev pub Alike : (rest all : List Qualified) → Type 0
  Alike rest all = record {
    up : LacksOneOf n scope rest → LacksOneOf n scope all;
    down : LacksOneOf n scope all → LacksOneOf n scope rest;
  }

  -- what is left is some names and what is left behind them, and those are there
  pub on : (all rest xs more : List Qualified) → rest ≡ xs ++ more → (LacksOneOf n scope xs → ⊥) → Alike rest all → Alike more all
  on all rest xs more apart never same = record {
    up = λ l. same.up (subst (λ (z : List Qualified). LacksOneOf n scope z) (sym apart) (behind xs more l));
    down = λ l. not_front xs more never (subst (λ (z : List Qualified). LacksOneOf n scope z) apart (same.down l));
  }
