use Rattle.std.proofs.Common.{◌≡◌, ◌∷◌, [], ◌++◌, arith}
use Rattle.std.proofs.lemmas.List.{nil_from_length}
use Rattle.dis_filling.specs.Filling.{loading_of}
use Rattle.dis_filling.proofs.Stands.{left, left_none}
use Rattle.dis_filling.proofs.filled.Filled.leave.Goals as goal

pub returns-in-Some : goal.returns-in-Some
returns-in-Some c =
    let e : c.args.self.now.back.items ≡ c.pop.new.self.items ++ c.in-Some.place ∷ [] =
    rw c.in-Some.is at c.pop.ensures.items in
    left (loading_of c.args.self.now) c.pop.new.self.items c.in-Some.place c.args.self.now.back.items e

pub returns-in_default : goal.returns-in_default
returns-in_default c =
    let old : c.args.self.now.back.items ≡ [] =
    nil_from_length _ (omega (arith, c.args.self.now.back.ok, c.in_default.ensures.cases.0)) in
    let new : c.pop.new.self.items ≡ [] = nil_from_length _ (omega (arith, c.pop.new.self.ok, c.in_default.ensures.cases.1)) in
    left_none (loading_of c.args.self.now) c.args.self.now.back.items c.pop.new.self.items old new
