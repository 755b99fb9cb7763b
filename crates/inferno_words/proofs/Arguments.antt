-- What a parse found for one argument of its form: a value where it is required, and values that its parser took.
use Rattle.std.proofs.Common.{◌≡◌, ◌∙◌, ◌<◌, ◌≤◌, ◌&&◌, ℕ, zero, suc, Bool, true, false, not, List, [], ◌∷◌, map, length, Option, Some, None, is_some, refl, sym, ap, ap₂, subst, inl, inr, arith}
use Rattle.std.specs.Prelude.{codes, option_map, slice_get}
use Rattle.std.specs.Borrow.{Bor}
use Rattle.std.specs.List.{All, list_all, slice_index_or}
use Rattle.std.specs.Str.{bytes_eq}
use Rattle.std.proofs.lemmas.List.{get_or-map, length-map}
use Rattle.std.proofs.lemmas.List.Elements.{All-get_or}
use Rattle.std.proofs.lemmas.Slice.Eq.{bytes_eq-Decides}
use Rattle.clap.specs.Built.{IsAuto, IsParsedFrom, IsPlain, SameRules}
use Rattle.clap.specs.Facts.{Entry, EntryPasses, HasReading, PassesArg, args_of, groups_of, least_values, parser_of_value, unwrap_or_range}
use Rattle.clap.specs.Matches.{first_value, found_of, matched_of, one_text}
use Rattle.clap.specs.Simple.{App, app_of}
use Rattle.clap.specs.Values.{Accepts, read_as, reading_of}
use Rattle.clap.specs.Walk.{Rule, is_empty, is_simple_arg, one_of, rule_of, rows_of}
use Rattle.clap.specs.declared.builder.action.ArgAction.TheVariants.{Set}
use Rattle.clap.specs.declared.builder.arg.Arg.{Arg}
use Rattle.clap.specs.declared.builder.command.Command.{Command}
use Rattle.clap.specs.declared.builder.range.ValueRange.{ValueRange}
use Rattle.clap.specs.declared.builder.value_parser.Reading.{Reading}
use Rattle.clap.specs.declared.builder.value_parser.ValueParser.{ValueParser}
use Rattle.clap.specs.declared.parser.matches.ArgMatches.{ArgMatches}
use Rattle.clap.specs.declared.parser.matches.MatchedArg.{MatchedArg}
use Rattle.clap.proofs.CallerLemmas.{entry_by_id, required_has_value, same_rules_by_id}
use Rattle.clap.proofs.SimpleLemmas.{is_false, is_nil, plain_fields}
use Rattle.clap.proofs.TakesLemmas.{each_rule}
use Rattle.clap.proofs.WalkLemmas.{both, one_text-rows}

-- ---- names

-- no rule of the list has the name
abbrev pub has_none : List ℕ → List Rule → Bool
has_none id [] = true
has_none id (r ∷ rs) = not (bytes_eq r.id id) && has_none id rs

-- only the rule at the place has the name
abbrev pub is_only : List ℕ → ℕ → List Rule → Bool
is_only id k [] = true
is_only id zero (r ∷ rs) = has_none id rs
is_only id (suc k) (r ∷ rs) = not (bytes_eq r.id id) && is_only id k rs

none_at : (id : List ℕ) (rs : List Rule) → has_none id rs ≡ true → (j : ℕ) (d : Rule) → j < length rs
    → bytes_eq (slice_index_or rs j d).id id ≡ true → ⊥
none_at id [] e j d lt same = absurd (omega arith)
none_at id (r ∷ rs) e zero d lt same =
    let other : bytes_eq r.id id ≡ false = is_false _ (both (not (bytes_eq r.id id)) (has_none id rs) e).0 in
    absurd cc
none_at id (r ∷ rs) e (suc j) d lt same = none_at id rs (both (not (bytes_eq r.id id)) (has_none id rs) e).1 j d (omega arith) same

only_place : (id : List ℕ) (k : ℕ) (rs : List Rule) → is_only id k rs ≡ true → (j : ℕ) (d : Rule) → j < length rs
    → bytes_eq (slice_index_or rs j d).id id ≡ true → j ≡ k
only_place id k [] e j d lt same = absurd (omega arith)
only_place id zero (r ∷ rs) e zero d lt same = refl
only_place id zero (r ∷ rs) e (suc j) d lt same = absurd (none_at id rs e j d (omega arith) same)
only_place id (suc k) (r ∷ rs) e zero d lt same =
    let other : bytes_eq r.id id ≡ false = is_false _ (both (not (bytes_eq r.id id)) (is_only id k rs) e).0 in
    absurd cc
only_place id (suc k) (r ∷ rs) e (suc j) d lt same =
    ap suc (only_place id k rs (both (not (bytes_eq r.id id)) (is_only id k rs) e).1 j d (omega arith) same)

-- a name that building a form doesn't add
abbrev pub is_own : List ℕ → Bool
is_own id = not (is_empty id) && (not (bytes_eq id (codes "help")) && not (bytes_eq id (codes "version")))

own_facts : (id : List ℕ) → is_own id ≡ true → (is_empty id ≡ false) × (bytes_eq id (codes "help") ≡ false) × (bytes_eq id (codes "version") ≡ false)
own_facts id e =
    let p = both (not (is_empty id)) (not (bytes_eq id (codes "help")) && not (bytes_eq id (codes "version"))) e in
    let q = both (not (bytes_eq id (codes "help"))) (not (bytes_eq id (codes "version"))) p.1 in
    (is_false _ p.0, is_false _ q.0, is_false _ q.1)

-- ---- arguments of a form

-- The rule is that of the argument at the place, which alone has its name, in a form that excludes nothing.
pub record IsArgument (form : App) (k : ℕ) (rule : Rule) : Type 0 where
  pub plain : form.top.is_plain ≡ true
  pub simple : list_all (λ a. a.is_simple) form.top.rules ≡ true
  pub free : list_all (λ a. a.is_free) form.top.rules ≡ true
  pub negates : form.top.subcommand_negates_reqs ≡ false
  pub there : k < length form.top.rules
  pub at : (d : Rule) → slice_index_or form.top.rules k d ≡ rule
  pub only : is_only rule.id k form.top.rules ≡ true
  pub own : is_own rule.id ≡ true

some_arg : (xs : List Arg) (k : ℕ) → k < length xs → Arg
some_arg [] k lt = absurd (omega arith)
some_arg (x ∷ xs) k lt = x

is_none : {X : Type 0} (o : Option X) → not (is_some o) ≡ true → o ≡ None
is_none None e = refl
is_none (Some x) e = absurd cc

no_delimiter : (a : Arg) → is_simple_arg a ≡ true → a.val_delim ≡ None
no_delimiter a e =
    let p = both (is_empty a.overrides.items) _ e in
    let q = both (is_empty a.default_vals_ifs.items) _ p.1 in
    let r = both (is_empty a.groups.items) _ q.1 in
    let s = both (not (is_some a.val_delim)) _ r.1 in
    is_none a.val_delim s.0

excludes_nothing : (c : Command) (k : ℕ) (rule : Rule) → IsArgument (app_of c) k rule → IsPlain c
excludes_nothing c k rule h = (
  (λ j d lt.
      let s = each_rule (λ a. a.is_simple) (args_of c) h.simple j d lt in
      let f = each_rule (λ a. a.is_free) (args_of c) h.free j d lt in
      (is_false _ (both _ _ f).0, is_nil _ (both _ _ (both _ _ f).1).0, is_nil _ (both _ _ s).0, is_nil _ (both _ _ (both _ _ (both _ _ s).1).1).0)),
  (plain_fields c h.plain).groups,
)

module _ (old : Command) (k : ℕ) (rule : Rule) (h : IsArgument (app_of old) k rule) where
  in_args : k < length (args_of old)
  in_args = let t = h.there in omega (arith, length-map (args_of old) rule_of)

  rule_at : (d : Arg) → rule_of (slice_index_or (args_of old) k d) ≡ rule
  rule_at d = sym (get_or-map rule_of (args_of old) k d (rule_of d) in_args) ∙ h.at (rule_of d)

  id_at : (d : Arg) → (slice_index_or (args_of old) k d).id.now ≡ rule.id
  id_at d = ap (λ (r : Rule). r.id) (rule_at d)

  alone : (d : Arg) (j : ℕ) (e : Arg) → j < length (args_of old)
      → bytes_eq (slice_index_or (args_of old) j e).id.now (slice_index_or (args_of old) k d).id.now ≡ true → j ≡ k
  alone d j e lt same =
      let id : (slice_index_or (map rule_of (args_of old)) j (rule_of e)).id ≡ (slice_index_or (args_of old) j e).id.now
      = ap (λ (r : Rule). r.id) (get_or-map rule_of (args_of old) j e (rule_of e) lt) in
      only_place rule.id k (map rule_of (args_of old)) h.only j (rule_of e) (omega (arith, length-map (args_of old) rule_of))
      (ap₂ bytes_eq id (sym (id_at d)) ∙ same)

  named : rule.id ≡ [] → ⊥
  named e =
      let full : is_empty rule.id ≡ false = (own_facts rule.id h.own).0 in
      let empty : is_empty rule.id ≡ true = rw e refl in
      absurd cc

  not_auto : (d : Arg) → IsAuto (slice_index_or (args_of old) k d) → ⊥
  not_auto d (inl e) =
      let other : bytes_eq rule.id (codes "help") ≡ false = (own_facts rule.id h.own).1 in
      let same : bytes_eq rule.id (codes "help") ≡ true = rw (sym (id_at d) ∙ e) refl in
      absurd cc
  not_auto d (inr e) =
      let other : bytes_eq rule.id (codes "version") ≡ false = (own_facts rule.id h.own).2 in
      let same : bytes_eq rule.id (codes "version") ≡ true = rw (sym (id_at d) ∙ e) refl in
      absurd cc

  -- a required argument that takes one value has it
  pub has_value : (m : ArgMatches) → IsParsedFrom old m → rule.required ≡ true → rule.action ≡ Some Set → rule.range ≡ None
      → is_some (first_value (found_of m) rule.id) ≡ true
  has_value m p required set one =
      let d = some_arg (args_of old) k in_args in
      let a = slice_index_or (args_of old) k d in
      let simple = each_rule (λ a. a.is_simple) (args_of old) h.simple k d in_args in
      let delim : a.val_delim ≡ None = no_delimiter a simple in
      let range : a.num_vals ≡ None = ap (λ (r : Rule). r.range) (rule_at d) ∙ one in
      let least : 1 ≤ least_values a = subst (λ (r : Option ValueRange). 1 ≤ (unwrap_or_range r).start_inclusive) (sym range) (omega arith) in
      let has = required_has_value old m p (excludes_nothing old k rule h) (plain_fields old h.plain).globals h.negates k d in_args
      (ap (λ (r : Rule). r.required) (rule_at d) ∙ required) (ap (λ (r : Rule). r.action) (rule_at d) ∙ set) delim least
      (alone d) (λ e. named (sym (id_at d) ∙ e)) (not_auto d) in
      subst (λ (i : List ℕ). is_some (first_value (found_of m) i) ≡ true) (id_at d) has

  -- an argument of the form that was parsed has the rules of the one at the place, where it has the name
  same_rules : (m : ArgMatches) (p : IsParsedFrom old m) (d : Arg) (j : ℕ) (x : Arg) → j < length (args_of p.built)
      → slice_index_or (args_of p.built) j x ≡ x → bytes_eq x.id.now rule.id ≡ true → SameRules (slice_index_or (args_of old) k d) x
  same_rules m p d j x lt at same =
      same_rules_by_id old m p k d in_args (alone d) (not_auto d) j x lt at (ap (bytes_eq x.id.now) (id_at d) ∙ same)

  pub is_read_as : (m : ArgMatches) (p : IsParsedFrom old m) (q : ValueParser) → rule.parser ≡ Some q
      → (r : Reading) → HasReading p.built rule.id r → r ≡ reading_of q
  is_read_as m p q parser r any =
      let d = some_arg (args_of old) k in_args in
      let s = same_rules m p d any.0 any.1 any.2 any.3 any.4.0 in
      sym any.4.1 ∙ ap reading_of (ap parser_of_value (s.parser q (ap (λ (r : Rule). r.parser) (rule_at d) ∙ parser)))

  pub was_taken : (m : ArgMatches) (p : IsParsedFrom old m) (q : ValueParser) → rule.parser ≡ Some q
      → (w : List ℕ) → PassesArg p.built rule.id w → Accepts rule.ignore_case q w
  was_taken m p q parser w any =
      let d = some_arg (args_of old) k in_args in
      let s = same_rules m p d any.0 any.1 any.2 any.3 any.4.0 in
      let is_q = ap parser_of_value (s.parser q (ap (λ (r : Rule). r.parser) (rule_at d) ∙ parser)) in
      let as_q : Accepts any.1.ignore_case q w = subst (λ (v : ValueParser). Accepts any.1.ignore_case v w) is_q any.4.1 in
      subst (λ (b : Bool). Accepts b q w) (s.ignore_case ∙ ap (λ (r : Rule). r.ignore_case) (rule_at d)) as_q

-- ---- entries

-- the first value of an entry, as the argument of its name takes and reads it
entry_value : (c : Command) (id : List ℕ) (Q : List ℕ → Type 0) (how : Reading) (e : Entry) (v : Bor (List ℕ)) (vs : List (Bor (List ℕ)))
    → groups_of c ≡ [] → (id ≡ [] → ⊥) → e.0.now ≡ id → EntryPasses c e → e.1.vals.items ≡ v ∷ vs
    → ((r : Reading) → HasReading c id r → r ≡ how) → ((w : List ℕ) → PassesArg c id w → Q w)
    → (e.1.reading ≡ how) × Q v.now
entry_value c id Q how e v vs no_groups named key pass vals reads takes =
    let no_group : e.1.is_group ≡ true → ⊥ = λ g. elim (pass.3 g) [
      | inl empty ↦ named (sym key ∙ empty)
      | inr lots ↦
          let bad : 0 < 0 = rw no_groups at lots in
          absurd (omega arith)
    ] in
    let all : All (λ w. PassesArg c id w.now) (v ∷ vs) = elim pass.0 [
      | inl g ↦ absurd (no_group g)
      | inr each ↦ subst (λ (i : List ℕ). All (λ w. PassesArg c i w.now) (v ∷ vs)) key (rw vals at each)
    ] in
    let is : e.1.reading ≡ how = elim pass.4 [
      | inl g ↦ absurd (no_group g)
      | inr r ↦ reads e.1.reading (subst (λ (i : List ℕ). HasReading c i e.1.reading) key r)
    ] in
    (is, takes v.now (All-get_or (λ w. PassesArg c id w.now) (v ∷ vs) 0 v (omega arith) all))

-- the text that is read of an argument: its parser took what it is read of
pub reads_taken : (old : Command) (k : ℕ) (rule : Rule) (h : IsArgument (app_of old) k rule) (m : ArgMatches) → IsParsedFrom old m
    → (q : ValueParser) → rule.parser ≡ Some q → (t : List ℕ) → one_of rule.id (rows_of (found_of m)) ≡ Some t
    → (raw : List ℕ) × (t ≡ read_as (reading_of q) raw) × Accepts rule.ignore_case q raw
reads_taken old k rule h m p q parser t said =
    go (matched_of (found_of m) rule.id) refl (one_text-rows (found_of m) rule.id ∙ said)
  where
    first : (x : MatchedArg) (vs : List (Bor (List ℕ))) → x.vals.items ≡ vs
        → ((e : Entry) × (e.1 ≡ x) × (bytes_eq e.0.now rule.id ≡ true) × EntryPasses p.built e)
        → option_map (λ s. read_as x.reading s.now) (slice_get vs 0) ≡ Some t
        → (raw : List ℕ) × (t ≡ read_as (reading_of q) raw) × Accepts rule.ignore_case q raw
    first x [] vals got has = absurd cc
    first x (v ∷ vs) vals got has =
        let e = got.0 in
        let key : e.0.now ≡ rule.id = (bytes_eq-Decides e.0.now rule.id).0 got.2 in
        let its : e.1.vals.items ≡ v ∷ vs = ap (λ (y : MatchedArg). y.vals.items) got.1 ∙ vals in
        let r = entry_value p.built rule.id (λ w. Accepts rule.ignore_case q w) (reading_of q) e v vs
        (p.from.plain (excludes_nothing old k rule h)).1 (named old k rule h) key got.3 its
        (is_read_as old k rule h m p q parser) (was_taken old k rule h m p q parser) in
        let how : x.reading ≡ reading_of q = ap (λ (y : MatchedArg). y.reading) (sym got.1) ∙ r.0 in
        let same : Some (read_as x.reading v.now) ≡ Some t = has in
        let text : read_as x.reading v.now ≡ t = cc in
        (v.now, sym text ∙ ap (λ (y : Reading). read_as y v.now) how, r.1)

    go : (o : Option MatchedArg) → matched_of (found_of m) rule.id ≡ o → one_text (found_of m) rule.id ≡ Some t
        → (raw : List ℕ) × (t ≡ read_as (reading_of q) raw) × Accepts rule.ignore_case q raw
    go None e has =
        let bad : None ≡ Some t = rw e at has in
        absurd cc
    go (Some x) e has =
        first x x.vals.items refl (entry_by_id (EntryPasses p.built) (found_of m).entries.items rule.id x
        (p.parsed (p.from.globals ∙ (plain_fields old h.plain).globals)).values e) (rw e at has)
