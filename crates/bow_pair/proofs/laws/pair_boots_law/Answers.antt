use Rattle.bow_pair.proofs.Agreeing.{boots_settle, cuts_stay_agreed}
use Rattle.bow_pair.proofs.laws.pair_boots_law.Goals as goal

pub returns : goal.returns
returns c = record { agreed = cuts_stay_agreed; settles = boots_settle }
