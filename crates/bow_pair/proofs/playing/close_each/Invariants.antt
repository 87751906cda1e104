use Rattle.std.proofs.Common.{◌≡◌, ◌+◌, ◌≤◌, ◌++◌, List, length, map}
use Rattle.std.specs.Prelude.{vec_capacity}
use Rattle.bow_session.specs.Parts.{account_of}
use Rattle.bow_session.specs.Sessions.{Run}
use Rattle.bow_pair.specs.Playing.{EachRun, HasEnded}
use Rattle.bow_pair.proofs.playing.close_each.Given as goal

abbrev pub invariant-loop-session : goal.invariant-loop-session
invariant-loop-session g l = record {
  closed : List (Run g.row.D.Denot);
  split : l.sessions.items ++ closed ≡ l.fn.sessions.items;
  ended : EachRun (HasEnded g.D.Disk.stated g.D.Disk.content g.D.Disk.moment g.D.Disk.left_since g.D.Disk.faults) closed;
  cores : map (λ s. s.core) l.sessions.items ++ l.cores.items ≡ map (λ s. s.core) l.fn.sessions.items ++ l.fn.cores.items;
  accounts : map account_of l.sessions.items ++ l.accounts.items ≡ map account_of l.fn.sessions.items ++ l.fn.accounts.items;
  back : vec_capacity l.fn.cores ≤ vec_capacity l.cores;
  room : length l.sessions.items + length l.cores.items ≤ vec_capacity l.cores;
  place : length l.sessions.items + length l.accounts.items ≤ vec_capacity l.accounts;
}

abbrev pub decreases-loop-session : goal.decreases-loop-session
decreases-loop-session g l = length l.sessions.items
