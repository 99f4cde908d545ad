pub mod Control
pub mod Status
pub mod UserAddress
pub mod TxQueueControl
pub mod TxQueueStatus
pub mod TxQueueUserAddress
