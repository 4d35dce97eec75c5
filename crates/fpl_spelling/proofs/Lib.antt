mod Fronts
mod NamesPast
