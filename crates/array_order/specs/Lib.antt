pub mod ClientSteps
pub mod ClientOrder
pub mod UpdateOrder
pub mod SmallUpdates
