pub mod Fronting
pub mod Figures
pub mod HexFigures
pub mod Cases
pub mod Pages
pub mod Runs
