pub use Rattle.explicit_routes.specs.Choosing
pub use Rattle.explicit_routes.specs.declared.fault.RouteFault
pub mod Rooms
