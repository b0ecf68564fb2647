pub mod Sheets
pub mod Listings
pub mod MagmaValues
pub mod KuznyechikValues
pub mod ModeValues
pub mod TagTexts
