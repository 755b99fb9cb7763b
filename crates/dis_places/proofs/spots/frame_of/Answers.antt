use Rattle.dis_places.proofs.Regions.{words_below, words_made, words_gone}
use Rattle.dis_places.proofs.spots.frame_of.Goals as goal

pub returns-in-Below : goal.returns-in-Below
returns-in-Below c = λ h. words_below c.args.process.now c.args.serial c.in-Below.k c.in-Below.ensures

pub returns-in-Made : goal.returns-in-Made
returns-in-Made c = λ h. words_made c.args.process.now c.args.serial c.in-Made.k c.in-Made.ensures

pub returns-in-Gone : goal.returns-in-Gone
returns-in-Gone c = λ h. words_gone c.args.process.now c.args.serial c.in-Gone.ensures
