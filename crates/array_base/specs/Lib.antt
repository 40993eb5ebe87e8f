pub mod Premises
pub mod Opening
pub mod Base
pub mod CallDoes
pub mod Laws
pub mod Metadata
pub mod Toy
