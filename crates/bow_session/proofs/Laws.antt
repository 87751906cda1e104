-- The laws of histories on which a session stands.
pub use Rattle.bow_history.proofs.SoundTurns.{beginning_is_sound, turns_keep_sound}
pub use Rattle.bow_history.proofs.Places.{has_place}
pub use Rattle.bow_history.proofs.Ending.{turns_go_down, items_go_down}
pub use Rattle.bow_history.proofs.Chosen.{chosen_is_ready}
