-- What stands at the front of heads and of statements.
use Rattle.std.proofs.Common.{◌≡◌, ℕ, ◌+◌, Bool, true, false, cond, List, [], ◌∷◌, length, Option, Some, None, refl, ap, ◌∙◌, subst, arith, inl, inr}
use Rattle.limbo_lexer.specs.declared.token.Kind.{Kind}
use Rattle.limbo_lexer.specs.declared.token.Kind.TheVariants as kind
use Rattle.limbo_lexer.specs.declared.token.Mark.TheVariants as mark
use Rattle.limbo_lexer.specs.declared.token.Key.{Key}
use Rattle.limbo_lexer.specs.declared.token.Key.TheVariants as key
use Rattle.limbo_stmt_parts.specs.declared.start.Branch.{Branch}
use Rattle.limbo_stmt_parts.specs.declared.start.Branch.TheVariants as branch
use Rattle.limbo_stmt_parts.specs.declared.start.Choice.TheVariants as choice
use Rattle.limbo_stmt_parts.specs.declared.start.Loop.TheVariants as loop
use Rattle.limbo_stmt_parts.specs.declared.start.Jump.{Jump}
use Rattle.limbo_stmt_parts.specs.declared.start.Jump.TheVariants as jump
use Rattle.limbo_tree.specs.Tokens.{◌▸◌, ◌▹◌}
use Rattle.limbo_reading.specs.Reading.{choose, after_mark}
use Rattle.limbo_reading.proofs.Steps.{tell, after_mark_is}
use Rattle.limbo_stmt_parts.specs.Start.{Start, AtEmpty, AtBlock, AtIf, AtBranch, AtLabelled, AtJump, AtDeclare, AtOther, start, branch_of, at_branch, at_label, at_key, declares}
use Rattle.limbo_stmt_parts.specs.Heads.{arrow_or, star_alone}

if_some : {A : Type 0} (b : Bool) (x y : A) → cond b (Some x) None ≡ Some y → (b ≡ true) × (x ≡ y)
if_some true x y e = (refl, cc)
if_some false x y e = absurd cc

star_from : (o : Option (List Kind)) (us : List Kind) → choose o None (λ vs. cond (arrow_or vs) (Some vs) None) ≡ Some us → (o ≡ Some us) × (arrow_or us ≡ true)
star_from None us e = absurd cc
star_from (Some vs) us e = let p = if_some (arrow_or vs) vs us e in (ap (λ (ws : List Kind). Some ws) p.1, subst (λ (ws : List Kind). arrow_or ws ≡ true) p.1 p.0)

pub star_is : (ts us : List Kind) → star_alone ts ≡ Some us → ts ≡ mark.Star ▸ us
star_is ts us e = after_mark_is mark.Star ts us (star_from (after_mark mark.Star ts) us e).0

pub star_length : (ts us : List Kind) → star_alone ts ≡ Some us → length us + 1 ≡ length ts
star_length ts us e = omega (arith, ap length (star_is ts us e))

-- ---- the tokens that a start stands for

abbrev pub branch_key : Branch → Key
branch_key (branch.Loop loop.While) = key.While
branch_key (branch.Loop loop.Do) = key.Do
branch_key (branch.Loop loop.For) = key.For
branch_key (branch.Choice choice.Case) = key.Case
branch_key (branch.Choice choice.Alt) = key.Alt
branch_key (branch.Choice choice.Pick) = key.Pick

abbrev pub jump_key : Jump → Key
jump_key jump.Break = key.Break
jump_key jump.Continue = key.Continue
jump_key jump.Return = key.Return
jump_key jump.Exit = key.Exit
jump_key jump.Spawn = key.Spawn
jump_key jump.Raise = key.Raise

abbrev pub StartIs : List Kind → Start → Type 0
StartIs ts (AtEmpty us) = ts ≡ mark.Semicolon ▸ us
StartIs ts (AtBlock us) = ts ≡ mark.OpenBrace ▸ us
StartIs ts (AtIf us) = ts ≡ key.If ▹ us
StartIs ts (AtBranch b us) = ts ≡ branch_key b ▹ us
StartIs ts (AtLabelled b us) = (n : List ℕ) × (ts ≡ kind.Name n ∷ (mark.Colon ▸ branch_key b ▹ us))
StartIs ts (AtJump j us) = ts ≡ jump_key j ▹ us
StartIs ts AtDeclare = Unit {0}
StartIs ts AtOther = Unit {0}

branch_is : (k : Key) (b : Branch) → branch_of k ≡ Some b → k ≡ branch_key b
branch_is key.While b e = let q : (branch.Loop loop.While) ≡ b = cc in ap branch_key q
branch_is key.Do b e = let q : (branch.Loop loop.Do) ≡ b = cc in ap branch_key q
branch_is key.For b e = let q : (branch.Loop loop.For) ≡ b = cc in ap branch_key q
branch_is key.Case b e = let q : (branch.Choice choice.Case) ≡ b = cc in ap branch_key q
branch_is key.Alt b e = let q : (branch.Choice choice.Alt) ≡ b = cc in ap branch_key q
branch_is key.Pick b e = let q : (branch.Choice choice.Pick) ≡ b = cc in ap branch_key q
branch_is _ b e = absurd cc

at_branch_is : (ts : List Kind) (x : Branch × List Kind) → at_branch ts ≡ Some x → ts ≡ branch_key x.0 ▹ x.1
at_branch_is [] x e = absurd cc
at_branch_is (kind.Key k ∷ ts) x e = elim (tell (branch_of k)) [
  | inl (b, i) ↦
      let s : Some (b, ts) ≡ Some x = rw i at e in
      let p : b ≡ x.0 = cc in
      let q : ts ≡ x.1 = cc in
      ap (λ (j : Key). j ▹ ts) (branch_is k b i ∙ ap branch_key p) ∙ ap (λ (us : List Kind). branch_key x.0 ▹ us) q
  | inr i ↦ let s : None ≡ Some x = rw i at e in absurd cc
]
at_branch_is (_ ∷ ts) x e = absurd cc

label_from : (ts : List Kind) (x : Branch × List Kind) (o : Option (List Kind)) → after_mark mark.Colon ts ≡ o → choose o None at_branch ≡ Some x → ts ≡ mark.Colon ▸ branch_key x.0 ▹ x.1
label_from ts x None i e = absurd cc
label_from ts x (Some us) i e = after_mark_is mark.Colon ts us i ∙ ap (λ (vs : List Kind). mark.Colon ▸ vs) (at_branch_is us x e)

at_label_is : (ts : List Kind) (x : Branch × List Kind) → at_label ts ≡ Some x → ts ≡ mark.Colon ▸ branch_key x.0 ▹ x.1
at_label_is ts x e = label_from ts x (after_mark mark.Colon ts) refl e

at_key_is : (k : Key) (ts : List Kind) → StartIs (k ▹ ts) (at_key k ts)
at_key_is key.If ts = refl
at_key_is key.While ts = refl
at_key_is key.Do ts = refl
at_key_is key.For ts = refl
at_key_is key.Case ts = refl
at_key_is key.Alt ts = refl
at_key_is key.Pick ts = refl
at_key_is key.Break ts = refl
at_key_is key.Continue ts = refl
at_key_is key.Return ts = refl
at_key_is key.Exit ts = refl
at_key_is key.Spawn ts = refl
at_key_is key.Raise ts = refl
at_key_is _ ts = tt

name_is : (n : List ℕ) (ts : List Kind) (d : Bool) → StartIs (kind.Name n ∷ ts) (cond d AtDeclare AtOther)
name_is n ts true = tt
name_is n ts false = tt

pub start_is : (ts : List Kind) → StartIs ts (start ts)
start_is [] = tt
start_is (kind.Name n ∷ ts) = elim (tell (at_label ts)) [
  | inl (x, e) ↦ rw e (n, ap (λ (vs : List Kind). kind.Name n ∷ vs) (at_label_is ts x e))
  | inr e ↦ rw e (name_is n ts (declares ts))
]
start_is (kind.Mark mark.Semicolon ∷ ts) = refl
start_is (kind.Mark mark.OpenBrace ∷ ts) = refl
start_is (kind.Mark _ ∷ ts) = tt
start_is (kind.Key k ∷ ts) = at_key_is k ts
start_is (_ ∷ ts) = tt
