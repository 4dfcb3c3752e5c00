pub mod Fits
pub mod ExportLaws
pub mod Refusals
pub mod Carrying
pub mod CaptureItems
pub mod DigestLaws
pub mod Short
