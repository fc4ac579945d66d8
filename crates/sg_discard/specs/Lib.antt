pub use Rattle.sg_world.specs.sg_clients
