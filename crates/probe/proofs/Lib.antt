-- Laws of the probe.
pub mod Laws
