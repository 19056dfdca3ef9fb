pub mod Amplitudes
pub mod Back
pub mod Containers
pub mod Floats
pub mod Many
pub mod Reading
pub mod Joined
pub mod Stores
