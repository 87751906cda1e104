-- Two images that agree where it counts.
use Rattle.std.proofs.Common.{ap, ◌∙◌}
use Rattle.bow_chain.specs.Places.{pass}
use Rattle.bow_chain.specs.Sound.{log_in}
use Rattle.bow_chain.specs.Laws.{SameWhereItCounts}
use Rattle.bow_chain.proofs.Moved.{sums_moved, moved}

pub same_where_it_counts : SameWhereItCounts
same_where_it_counts g used image other log older same sound = (
  record {
    spelled = ap (log_in g) same.zeroth ∙ sound.spelled;
    behind = record {
      valid = (sound.behind).valid;
      sequence = (sound.behind).sequence;
      sums = sums_moved image other (λ x. x) (λ x. x) (λ x. x) log.entries (same.places).sums (sound.behind).sums;
      chain = moved g image other (λ x. x) (λ x. x) (pass log.entries) older (same.places).logs (sound.behind).chain;
    };
  },
  (same.places).bases,
)
