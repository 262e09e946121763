pub mod Keeping
pub mod Maps
pub mod TransferBoxes
pub mod TransferDeclarations
pub mod TransferNetworks
pub mod TransferTags
