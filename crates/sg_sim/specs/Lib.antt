pub mod Inside
pub mod Played
pub mod Playing
pub use Rattle.sg_play.specs.sg_plain
pub use Rattle.sg_play.specs as sg_play
pub use Rattle.sg_play.specs.sg_script
pub use Rattle.sg_play.specs.sg_clients
pub use Rattle.sg_play.specs.sg_world
pub use Rattle.sg_play.specs.sg_world_laws
