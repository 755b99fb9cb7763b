-- What rows of heads come to, by the rules.
use Rattle.std.proofs.Common.{◌≡◌, refl, sym, ap, ◌∙◌, ℕ, Bool, true, false, List, [], ◌∷◌, ◌++◌, Option, None, Some}
use Rattle.std.specs.Prelude.{◌==◌, if◌then◌else◌, option_map}
use Rattle.limbo_tree.specs.Stmts as stmts
use Rattle.limbo_types.specs.Types.{Ty}
use Rattle.limbo_typed.specs.declared.stmt.CasePattern.{CasePattern}
use Rattle.limbo_typed.specs.declared.stmt.HandlerPattern.{HandlerPattern}
use Rattle.limbo_typed.specs.declared.stmt.HandlerPattern.TheVariants as handler
use Rattle.limbo_scope.specs.Scopes.{Scope, entered, declared_here}
use Rattle.std.specs.FinMap.{get-empty}
use Rattle.std.proofs.lemmas.Bool.{ne_eqb}
use Rattle.std.specs.Ordering.{nat_cmp}
use Rattle.std.specs.Cmp.Lexicographic.{slice_cmp}
use Rattle.limbo_causes.specs.Causes.{Cause}
use Rattle.limbo_context.specs.Context.{Context, Body, HasVariantNamed}
use Rattle.limbo_stmt_values.specs.limbo_stating.Reasons.{Reason}
use Rattle.limbo_stmt_values.specs.limbo_stating.Cases as cases
use Rattle.limbo_stmt_values.specs.limbo_stating.Cases.{IsPattern, ArePatterns, FailsPatterns}
use Rattle.limbo_stmt_values.specs.limbo_stating.Picks as picks
use Rattle.limbo_stmt_values.specs.limbo_stating.Picks.{AreVariants, HasNoVariant}
use Rattle.limbo_stmt_values.specs.limbo_stating.Handlers as handlers
use Rattle.limbo_stmt_values.specs.limbo_stating.Handlers.{IsHandled, AreHandled, FailsHandled, starred, text_pattern}
use Rattle.limbo_stmt_values.specs.Leading.{point, From, Leads}
use Rattle.limbo_heads.specs.Entering.{DeclaresNothing}
use Rattle.limbo_heads.proofs.Rows.{Rules}

abbrev pub of_case : Ty → Context → Rules stmts.Pattern CasePattern Body Reason
of_case t c = record {
  Comes = λ b vs zs d. Leads (λ p q. ArePatterns t p vs zs q) c b d;
  Fails = λ b vs k. From (λ p. FailsPatterns t p vs k) c b;
  One = λ b v z d. Leads (λ p q. IsPattern t p v z q) c b d;
  none = λ b n. refl;
  more = λ b d e v vs z zs one w n. (point c d n, one n, w n);
  later = λ b d v vs z k one w n. cases.later (point c b n) (point c d n) v z vs k (one n) (w n);
}

abbrev pub of_pick : Context → ℕ → Rules (List ℕ) ℕ (Unit {0}) (Unit {0})
of_pick c a = record {
  Comes = λ s vs zs u. AreVariants c a vs zs;
  Fails = λ s vs k. HasNoVariant c a vs;
  One = λ s v z u. HasVariantNamed c a v z;
  none = λ s. tt;
  more = λ s t u v vs z zs one w. (one, w);
  later = λ s t v vs z k one w. picks.later v vs w;
}

abbrev pub of_handler : Context → Body → Rules stmts.HandlerPattern HandlerPattern (Unit {0}) Cause
of_handler c b = record {
  Comes = λ s vs zs u. AreHandled c b vs zs;
  Fails = λ s vs k. FailsHandled c b vs k;
  One = λ s v z u. IsHandled c b v z;
  none = λ s. tt;
  more = λ s t u v vs z zs one w. (one, w);
  later = λ s t v vs z k one w. handlers.later v vs k w;
}

-- ---- texts that end in `*`

longer : (d : ℕ) (cs : List ℕ) (b : Bool)
    → option_map (λ text. d ∷ text) (if b then Some cs else None) ≡ (if b then Some (d ∷ cs) else None)
longer d cs true = refl
longer d cs false = refl

starred_at_end : (cs : List ℕ) (c : ℕ) → starred (cs ++ c ∷ []) ≡ (if c == 42 then Some cs else None)
starred_at_end [] c = refl
starred_at_end (d ∷ []) c = ap (option_map (λ text. d ∷ text)) (starred_at_end [] c) ∙ longer d [] (c == 42)
starred_at_end (d ∷ e ∷ cs) c = ap (option_map (λ text. d ∷ text)) (starred_at_end (e ∷ cs) c) ∙ longer d (e ∷ cs) (c == 42)

pattern_by : List ℕ → Option (List ℕ) → HandlerPattern
pattern_by s o = elim o [ None ↦ handler.Chars s | Some t ↦ handler.Prefix t ]

pub prefix_pattern : (s cs : List ℕ) (c : ℕ) → s ≡ cs ++ c ∷ [] → c ≡ 42 → handler.Prefix cs ≡ text_pattern s
unfolding pattern_by
prefix_pattern s cs c e h =
    let o : starred s ≡ Some cs =
    ap starred e ∙ starred_at_end cs c ∙ ap (λ (d : ℕ). if d == 42 then Some cs else None) h in
    sym (ap (pattern_by s) o)

pub whole_pattern : (s cs : List ℕ) (c : ℕ) → s ≡ cs ++ c ∷ [] → (c ≡ 42 → ⊥) → handler.Chars s ≡ text_pattern s
unfolding pattern_by
whole_pattern s cs c e h =
    let o : starred s ≡ None =
    ap starred e ∙ starred_at_end cs c ∙ ap (λ (b : Bool). if b then Some cs else None) (ne_eqb c 42 h) in
    sym (ap (pattern_by s) o)

-- ---- where an arm begins

-- A scope that has just been entered declares nothing.
pub entered_declares_nothing : (scopes around : List Scope) → scopes ≡ entered around → DeclaresNothing scopes
entered_declares_nothing scopes around e name = ap (λ (ss : List Scope). declared_here name ss) e ∙ get-empty (slice_cmp nat_cmp) name
